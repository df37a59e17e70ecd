-- The nearest key.
use Rattle.std.proofs.Common.{◌≡◌, ◌∙◌, sym, ap, refl, ℕ, ◌+◌, ◌<◌, ◌≤◌, Bool, cond, ltb, lt-ltb, le-ltb, List, length, get_or, drop, Option, Some, None}
use Rattle.std.proofs.lemmas.List.{drop_more, at_drop_all}
use Rattle.zmeta_catalogues.specs.declared.fault.Key.{Key}
use Rattle.zmeta_catalogues.specs.Words.{Near, distance, nearer, nearest_of}

abbrev near_by : Option Key → ℕ → Near
near_by near parted = record { key = near; parted = parted }

-- no key yet
abbrev pub begun : Near
begun = near_by None 3

-- the nearer of a key and those before, by a test that was made
by_test : (word : List ℕ) (near : Option Key) (parted letters : ℕ) (key : Key) (b : Bool) → letters ≡ distance word key
    → ltb letters parted ≡ b
    → nearer word (near_by near parted) key ≡ cond b (near_by (Some key) letters) (near_by near parted)
by_test word near parted letters key b e test =
    ap (λ (d : ℕ). cond (ltb d parted) (near_by (Some key) d) (near_by near parted)) (sym e)
    ∙ ap (λ (x : Bool). cond x (near_by (Some key) letters) (near_by near parted)) test

-- a nearer key
pub one_nearer : (word : List ℕ) (near other : Option Key) (parted fewer letters : ℕ) (keys : List Key) (i : ℕ)
    (d : Key) (all : Near) → i < length keys → letters ≡ distance word (get_or keys i d) → letters < parted
    → other ≡ Some (get_or keys i d) → fewer ≡ letters → all ≡ nearest_of word (near_by near parted) (drop i keys)
    → all ≡ nearest_of word (near_by other fewer) (drop (i + 1) keys)
one_nearer word near other parted fewer letters keys i d all h e lt is less before =
    before ∙ ap (nearest_of word (near_by near parted)) (drop_more keys i d h)
    ∙ ap (λ (n : Near). nearest_of word n (drop (i + 1) keys))
    (by_test word near parted letters (get_or keys i d) _ e (lt-ltb letters parted lt)
    ∙ ap (λ (o : Option Key). near_by o letters) (sym is) ∙ ap (near_by other) (sym less))

-- a key that is no nearer
pub one_farther : (word : List ℕ) (near other : Option Key) (parted fewer letters : ℕ) (keys : List Key) (i : ℕ)
    (d : Key) (all : Near) → i < length keys → letters ≡ distance word (get_or keys i d) → parted ≤ letters → other ≡ near
    → fewer ≡ parted → all ≡ nearest_of word (near_by near parted) (drop i keys)
    → all ≡ nearest_of word (near_by other fewer) (drop (i + 1) keys)
one_farther word near other parted fewer letters keys i d all h e le is less before =
    before ∙ ap (nearest_of word (near_by near parted)) (drop_more keys i d h)
    ∙ ap (λ (n : Near). nearest_of word n (drop (i + 1) keys))
    (by_test word near parted letters (get_or keys i d) _ e (le-ltb letters parted le)
    ∙ ap (λ (o : Option Key). near_by o parted) (sym is) ∙ ap (near_by other) (sym less))

-- all keys
pub all_keys : (word : List ℕ) (near : Option Key) (parted : ℕ) (keys : List Key) (i : ℕ) → length keys ≤ i
    → nearest_of word begun keys ≡ nearest_of word (near_by near parted) (drop i keys)
    → near ≡ (nearest_of word begun keys).key
all_keys word near parted keys i h e =
    sym (ap (λ (n : Near). n.key) (e ∙ at_drop_all (nearest_of word (near_by near parted)) keys i h))
