-- Lines that are appended one after the other, until one cannot be said.
use Rattle.std.proofs.Common.{◌≡◌, ◌∙◌, sym, ap, subst, refl, ℕ, ◌+◌, ◌<◌, ◌≤◌, List, [], ◌∷◌, ◌++◌, length, take, drop, get_or, append_assoc, append-nil, Option, Some, None, Result, Err}
use Rattle.std.specs.List.{flat_map}
use Rattle.std.specs.Option.{option_or}
use Rattle.std.proofs.lemmas.List.{take_more, take_all, take-append-drop}
use Rattle.std.proofs.lemmas.List.Concat.{flat_map-append}
use Rattle.zmeta_world.specs.declared.world.AskedQuestion.{AskedQuestion}
use Rattle.zmeta_conversions.specs.declared.worlds.WorldFileError.{WorldFileError}
use Rattle.zmeta_conversions.specs.declared.worlds.WorldFileError.TheVariants as errors
use Rattle.zmeta_conversions.specs.Worlds.{Reason, first_unsaid, IsUnsaid, PutResult, IsReadable, AreReadable}

-- the lines of these were appended, and each can be said
pub record ArePut {A F : Type 0} (unsaid : A → Option F) (line : A → List ℕ) (xs : List A) (old new : List ℕ)
    : Type 0 where
  pub said : first_unsaid unsaid xs ≡ None
  pub lines : new ≡ old ++ flat_map line xs

pub none_put : {A F : Type 0} (unsaid : A → Option F) (line : A → List ℕ) (out : List ℕ) → ArePut unsaid line [] out out
none_put unsaid line out = record { said = refl; lines = sym (append-nil out) }

-- ---- the first of a list that cannot be said

on_first : {F : Type 0} (o a b c : Option F) → (a ≡ None → b ≡ c) → option_or o a ≡ None → option_or o b ≡ c
on_first None a b c k h = k h
on_first (Some r) a b c k h = absurd (Prim.cc h)

behind_said : {A F : Type 0} (unsaid : A → Option F) (xs ys : List A) → first_unsaid unsaid xs ≡ None
    → first_unsaid unsaid (xs ++ ys) ≡ first_unsaid unsaid ys
behind_said unsaid [] ys h = refl
behind_said unsaid (x ∷ xs) ys h =
    on_first (unsaid x) (first_unsaid unsaid xs) (first_unsaid unsaid (xs ++ ys)) (first_unsaid unsaid ys)
    (λ e. behind_said unsaid xs ys e) h

-- ---- one more

pub one_put : {A F : Type 0} (unsaid : A → Option F) (line : A → List ℕ) (xs : List A) (i : ℕ) (x : A)
    (old was new : List ℕ) → i < length xs → x ≡ get_or xs i x
    → ArePut unsaid line (take i xs) old was → (unsaid x ≡ None) × (new ≡ was ++ line x)
    → ArePut unsaid line (take (i + 1) xs) old new
one_put unsaid line xs i x old was new lt is h p =
    let more : take (i + 1) xs ≡ take i xs ++ x ∷ [] = take_more xs i x lt ∙ ap (λ z. take i xs ++ z ∷ []) (sym is) in
    rw more (record {
      said = behind_said unsaid (take i xs) (x ∷ []) h.said ∙ ap (λ z. option_or z None) p.0;
      lines = p.1 ∙ ap (λ z. z ++ line x) h.lines ∙ append_assoc old (flat_map line (take i xs)) (line x)
          ∙ ap (λ z. old ++ (flat_map line (take i xs) ++ z)) (sym (append-nil (line x)))
          ∙ ap (λ z. old ++ z) (sym (flat_map-append line (take i xs) (x ∷ [])));
    })

-- the first that cannot be said is that of the list
pub first_is : {A F : Type 0} (unsaid : A → Option F) (line : A → List ℕ) (xs : List A) (i : ℕ) (x : A)
    (old was : List ℕ) (f : F) → i < length xs → x ≡ get_or xs i x
    → ArePut unsaid line (take i xs) old was → unsaid x ≡ Some f → first_unsaid unsaid xs ≡ Some f
first_is unsaid line xs i x old was f lt is h p =
    let more : take (i + 1) xs ≡ take i xs ++ x ∷ [] = take_more xs i x lt ∙ ap (λ z. take i xs ++ z ∷ []) (sym is) in
    let cut : xs ≡ take i xs ++ x ∷ drop (i + 1) xs =
    sym (take-append-drop (i + 1) xs) ∙ ap (λ z. z ++ drop (i + 1) xs) more
    ∙ append_assoc (take i xs) (x ∷ []) (drop (i + 1) xs) in
    ap (first_unsaid unsaid) cut ∙ behind_said unsaid (take i xs) (x ∷ drop (i + 1) xs) h.said
    ∙ ap (λ z. option_or z (first_unsaid unsaid (drop (i + 1) xs))) p

-- ---- world files

pub first_unsaid_is : {A : Type 0} (unsaid : A → Option Reason) (line : A → List ℕ) (xs : List A) (i : ℕ) (x : A)
    (old was : List ℕ) (e : WorldFileError) → i < length xs → x ≡ get_or xs i x
    → ArePut unsaid line (take i xs) old was → IsUnsaid (unsaid x) e → IsUnsaid (first_unsaid unsaid xs) e
first_unsaid_is unsaid line xs i x old was (errors.Unsaid name reason) lt is h p = first_is unsaid line xs i x old was
    (name, reason) lt is h p
first_unsaid_is unsaid line xs i x old was errors.Memory lt is h p = tt

pub refused_as : (due : Option Reason) (text old new : List ℕ) (e f : WorldFileError) (r : Result Unit WorldFileError)
    → r ≡ Err f → f ≡ e → IsUnsaid due e → PutResult due text old new r
refused_as due text old new e f r is of h = rw (is, of) h

-- ---- questions that can be read again

more_readable : (qs : List AskedQuestion) (q : AskedQuestion) → AreReadable qs → IsReadable q
    → AreReadable (qs ++ q ∷ [])
more_readable [] q h k = (k, tt)
more_readable (p ∷ qs) q h k = (h.0, more_readable qs q h.1 k)

pub one_readable : (qs : List AskedQuestion) (i : ℕ) (q : AskedQuestion) → i < length qs → q ≡ get_or qs i q
    → AreReadable (take i qs) → IsReadable q → AreReadable (take (i + 1) qs)
one_readable qs i q lt is h k =
    let more : take (i + 1) qs ≡ take i qs ++ q ∷ [] = take_more qs i q lt ∙ ap (λ z. take i qs ++ z ∷ []) (sym is) in
    rw more (more_readable (take i qs) q h k)

-- ---- all of them

pub all_put : {A F : Type 0} (unsaid : A → Option F) (line : A → List ℕ) (xs : List A) (i : ℕ) (old new : List ℕ)
    → length xs ≤ i
    → ArePut unsaid line (take i xs) old new → (first_unsaid unsaid xs ≡ None) × (new ≡ old ++ flat_map line xs)
all_put unsaid line xs i old new le h =
    let all : take i xs ≡ xs = take_all i xs le in
    (ap (first_unsaid unsaid) (sym all) ∙ h.said, h.lines ∙ ap (λ z. old ++ flat_map line z) all)

pub all_readable : (qs : List AskedQuestion) (i : ℕ) → length qs ≤ i → AreReadable (take i qs) → AreReadable qs
all_readable qs i le h = subst AreReadable (take_all i qs le) h
