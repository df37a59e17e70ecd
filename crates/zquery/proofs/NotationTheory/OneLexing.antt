-- A text has one list of tokens, and none where a quote stays open.
use Rattle.std.proofs.Common.{◌≡◌, refl, sym, ◌∙◌, ap, subst, ℕ, ◌+◌, List, [], ◌∷◌, ◌++◌, Bool, true, false, not, ◌==◌, ◌||◌, ◌⊎◌, inl, inr, map, length, if◌then◌else◌, append_assoc, append-nil, arith}
use Rattle.std.proofs.lemmas.Bool.{true≢false}
use Rattle.zquery.specs.declared.notation.token.Token.{Token}
use Rattle.zquery.specs.Notation.Tokens.{is_white, AllAre, piece, ArePieces, spelled, IsQuoted, IsUnclosed, IsTokenEnd, IsUnquoted, IsTokenText, IsNextToken, TokensThen, AllWhite, IsOpenQuote, AreTokens, IsOpenAt}

head-is : {X : Type 0} (x y : X) (xs ys : List X) → x ∷ xs ≡ y ∷ ys → x ≡ y
head-is x y xs ys h = cc

tail-is : {X : Type 0} (x y : X) (xs ys : List X) → x ∷ xs ≡ y ∷ ys → xs ≡ ys
tail-is x y xs ys h = cc

not-itself : (v : Bool) → v ≡ not v → ⊥
not-itself true h = true≢false h
not-itself false h = true≢false (sym h)

-- the octets are none, or begin with one of the other kind
abbrev IsRunEnd : Bool → List ℕ → Type 0
IsRunEnd v [] = Unit {0}
IsRunEnd v (b ∷ bs) = is_white b ≡ not v

clash-kind : (v : Bool) (b c : ℕ) → b ≡ c → is_white b ≡ not v → is_white c ≡ v → ⊥
clash-kind v b c e g h = not-itself v (sym h ∙ ap is_white (sym e) ∙ g)

-- octets of one kind, and those behind them, can be split in one way
split-kind : (v : Bool) (xs ys r s : List ℕ) → AllAre is_white v xs → AllAre is_white v ys → IsRunEnd v r → IsRunEnd v s → xs ++ r ≡ ys ++ s → (xs ≡ ys) × (r ≡ s)
split-kind v [] [] r s h k f g e = (refl, e)
split-kind v [] (y ∷ ys) [] s h k f g e = absurd (Prim.cc e)
split-kind v [] (y ∷ ys) (b ∷ r) s h k f g e = absurd (clash-kind v b y (head-is b y r (ys ++ s) e) f k.0)
split-kind v (x ∷ xs) [] r [] h k f g e = absurd (Prim.cc e)
split-kind v (x ∷ xs) [] r (b ∷ s) h k f g e = absurd (clash-kind v b x (sym (head-is x b (xs ++ r) s e)) g h.0)
split-kind v (x ∷ xs) (y ∷ ys) r s h k f g e =
    let rest = split-kind v xs ys r s h.1 k.1 f g (tail-is x y (xs ++ r) (ys ++ s) e) in
    (ap (λ (z : ℕ). z ∷ xs) (head-is x y (xs ++ r) (ys ++ s) e) ∙ ap (λ (zs : List ℕ). y ∷ zs) rest.0, rest.1)

abbrev IsPiece : ℕ × Bool → Type 0
IsPiece x = (x.1 ≡ true) ⊎ (((x.0 == 34) || (x.0 == 92)) ≡ false)

plain : (x : ℕ × Bool) → IsPiece x → x.1 ≡ false → ((x.0 == 34) || (x.0 == 92)) ≡ false
plain x (inl h) e = absurd (true≢false (sym h ∙ e))
plain x (inr h) e = h

not-special : (b : ℕ) → ((b == 34) || (b == 92)) ≡ false → (b ≡ 34) ⊎ (b ≡ 92) → ⊥
not-special b h (inl e) = let z : true ≡ false = sym (ap (λ (c : ℕ). (c == 34) || (c == 92)) e) ∙ h in true≢false z
not-special b h (inr e) = let z : true ≡ false = sym (ap (λ (c : ℕ). (c == 34) || (c == 92)) e) ∙ h in true≢false z

backslash-quote : ◌≡◌ {A = ℕ} 92 34 → ⊥
backslash-quote h = omega arith

-- no piece begins with a quote, and a backslash is no whole piece
no-quote : (x : ℕ × Bool) (r a : List ℕ) → IsPiece x → piece x ++ r ≡ 34 ∷ a → ⊥
no-quote (c, true) r a h e = backslash-quote (head-is 92 34 (c ∷ r) a e)
no-quote (c, false) r a h e = not-special c (plain (c, false) h refl) (inl (head-is c 34 r a e))

no-backslash : (x : ℕ × Bool) (r : List ℕ) → IsPiece x → piece x ++ r ≡ 92 ∷ [] → ⊥
no-backslash (c, true) r h e = Prim.cc (tail-is 92 92 (c ∷ r) [] e)
no-backslash (c, false) r h e = not-special c (plain (c, false) h refl) (inr (head-is c 92 r [] e))

one-piece : (x y : ℕ × Bool) (r s : List ℕ) → IsPiece x → IsPiece y → piece x ++ r ≡ piece y ++ s → (x ≡ y) × (r ≡ s)
one-piece (c, true) (d, true) r s h k e =
    let rest : c ∷ r ≡ d ∷ s = tail-is 92 92 (c ∷ r) (d ∷ s) e in
    (ap (λ (z : ℕ). (z, true)) (head-is c d r s rest), tail-is c d r s rest)
one-piece (c, true) (d, false) r s h k e = absurd (not-special d (plain (d, false) k refl) (inr (sym (head-is 92 d (c ∷ r) s e))))
one-piece (c, false) (d, true) r s h k e = absurd (not-special c (plain (c, false) h refl) (inr (head-is c 92 r (d ∷ s) e)))
one-piece (c, false) (d, false) r s h k e = (ap (λ (z : ℕ). (z, false)) (head-is c d r s e), tail-is c d r s e)

one-quoting : (xs ys : List (ℕ × Bool)) (a b : List ℕ) → ArePieces xs → ArePieces ys → spelled xs ++ 34 ∷ a ≡ spelled ys ++ 34 ∷ b → (xs ≡ ys) × (a ≡ b)
one-quoting [] [] a b h k e = (refl, tail-is 34 34 a b e)
one-quoting [] (y ∷ ys) a b h k e = absurd (no-quote y (spelled ys ++ 34 ∷ b) a k.0 (sym (append_assoc (piece y) (spelled ys) (34 ∷ b)) ∙ sym e))
one-quoting (x ∷ xs) [] a b h k e = absurd (no-quote x (spelled xs ++ 34 ∷ a) b h.0 (sym (append_assoc (piece x) (spelled xs) (34 ∷ a)) ∙ e))
one-quoting (x ∷ xs) (y ∷ ys) a b h k e =
    let first = one-piece x y (spelled xs ++ 34 ∷ a) (spelled ys ++ 34 ∷ b) h.0 k.0 (sym (append_assoc (piece x) (spelled xs) (34 ∷ a)) ∙ e ∙ append_assoc (piece y) (spelled ys) (34 ∷ b)) in
    let rest = one-quoting xs ys a b h.1 k.1 first.1 in
    (ap (λ (z : ℕ × Bool). z ∷ xs) first.0 ∙ ap (λ (zs : List (ℕ × Bool)). y ∷ zs) rest.0, rest.1)

-- the octets behind pieces if no quote closes them: none, or a backslash
abbrev IsOpenEnd : List ℕ → Type 0
IsOpenEnd r = (r ≡ []) ⊎ (r ≡ 92 ∷ [])

closed-not-open : (xs ys : List (ℕ × Bool)) (a r : List ℕ) → ArePieces xs → ArePieces ys → IsOpenEnd r → spelled xs ++ 34 ∷ a ≡ spelled ys ++ r → ⊥
closed-not-open [] [] a r h k (inl o) e = Prim.cc (e ∙ o)
closed-not-open [] [] a r h k (inr o) e = backslash-quote (sym (head-is 34 92 a [] (e ∙ o)))
closed-not-open [] (y ∷ ys) a r h k o e = no-quote y (spelled ys ++ r) a k.0 (sym (append_assoc (piece y) (spelled ys) r) ∙ sym e)
closed-not-open (x ∷ xs) [] a r h k o e = elim o [
  | inl n ↦ elim (x.1) as (λ v. (if v then 92 ∷ x.0 ∷ [] else x.0 ∷ []) ++ (spelled xs ++ 34 ∷ a) ≡ [] → ⊥) [ true ↦ (λ f. Prim.cc f) | false ↦ (λ f. Prim.cc f) ]
      (sym (append_assoc (piece x) (spelled xs) (34 ∷ a)) ∙ e ∙ n)
  | inr b ↦ no-backslash x (spelled xs ++ 34 ∷ a) h.0 (sym (append_assoc (piece x) (spelled xs) (34 ∷ a)) ∙ e ∙ b)
]
closed-not-open (x ∷ xs) (y ∷ ys) a r h k o e =
    closed-not-open xs ys a r h.1 k.1 o
    (one-piece x y (spelled xs ++ 34 ∷ a) (spelled ys ++ r) h.0 k.0 (sym (append_assoc (piece x) (spelled xs) (34 ∷ a)) ∙ e ∙ append_assoc (piece y) (spelled ys) r)).1

-- a token of its own
white-quote : is_white 34 ≡ false
unfolding is_white
white-quote = refl

closing : (text lead after : List ℕ) (w : IsQuoted text lead) → lead ++ after ≡ 34 ∷ (spelled w.pieces ++ 34 ∷ after)
closing text lead after w = ap (λ (z : List ℕ). z ++ after) w.whole ∙ ap (λ (z : List ℕ). 34 ∷ z) (append_assoc (spelled w.pieces) (34 ∷ []) after)

word-front : (text after : List ℕ) → IsUnquoted text → (b : ℕ) × ((bs : List ℕ) × (text ++ after ≡ b ∷ bs) × ((b == 34) ≡ false) × (is_white b ≡ false))
word-front [] after h = absurd h
word-front (b ∷ bs) after h = (b, (bs ++ after, refl, h.0, h.1.0))

quote-word : (text after bs : List ℕ) → IsUnquoted text → text ++ after ≡ 34 ∷ bs → ⊥
quote-word text after bs h e =
    let f = word-front text after h in
    let same : f.0 ≡ 34 = head-is f.0 34 f.1.0 bs (sym f.1.1 ∙ e) in
    true≢false (sym (ap (λ (c : ℕ). c == 34) same) ∙ f.1.2)

black : (q : Bool) (text lead after : List ℕ) → IsTokenText q text lead after → (b : ℕ) × ((bs : List ℕ) × (lead ++ after ≡ b ∷ bs) × (is_white b ≡ false))
black true text lead after w = (34, (spelled w.pieces ++ 34 ∷ after, closing text lead after w, white-quote))
black false text lead after w =
    let f = word-front text after w.1 in
    (f.0, (f.1.0, ap (λ (z : List ℕ). z ++ after) w.0 ∙ f.1.1, f.1.3))

record SameToken (q q' : Bool) (text text' lead lead' after after' : List ℕ) : Type 0 where
  quotes : q ≡ q'
  texts : text ≡ text'
  leads : lead ≡ lead'
  rests : after ≡ after'

ends-stop : (after : List ℕ) → IsTokenEnd after → IsRunEnd false after
ends-stop [] h = tt
ends-stop (b ∷ bs) h = h

word-all : (text : List ℕ) → IsUnquoted text → AllAre is_white false text
word-all [] h = absurd h
word-all (b ∷ bs) h = h.1

one-written : (q q' : Bool) (text text' lead lead' after after' : List ℕ) → IsTokenText q text lead after → IsTokenText q' text' lead' after' → lead ++ after ≡ lead' ++ after' → SameToken q q' text text' lead lead' after after'
one-written true true text text' lead lead' after after' w v e =
    let inside = tail-is 34 34 (spelled w.pieces ++ 34 ∷ after) (spelled v.pieces ++ 34 ∷ after') (sym (closing text lead after w) ∙ e ∙ closing text' lead' after' v) in
    let same = one-quoting w.pieces v.pieces after after' w.lawful v.lawful inside in
    record {
      quotes = refl;
      texts = w.text_is ∙ ap (λ (ps : List (ℕ × Bool)). map (λ x. x.0) ps) same.0 ∙ sym v.text_is;
      leads = w.whole ∙ ap (λ (ps : List (ℕ × Bool)). 34 ∷ (spelled ps ++ 34 ∷ [])) same.0 ∙ sym v.whole;
      rests = same.1;
    }
one-written true false text text' lead lead' after after' w v e =
    absurd (quote-word text' after' (spelled w.pieces ++ 34 ∷ after) v.1 (ap (λ (z : List ℕ). z ++ after') (sym v.0) ∙ sym e ∙ closing text lead after w))
one-written false true text text' lead lead' after after' w v e =
    absurd (quote-word text after (spelled v.pieces ++ 34 ∷ after') w.1 (ap (λ (z : List ℕ). z ++ after) (sym w.0) ∙ e ∙ closing text' lead' after' v))
one-written false false text text' lead lead' after after' w v e =
    let same = split-kind false text text' after after' (word-all text w.1) (word-all text' v.1) (ends-stop after w.2) (ends-stop after' v.2)
    (ap (λ (z : List ℕ). z ++ after) (sym w.0) ∙ e ∙ ap (λ (z : List ℕ). z ++ after') v.0) in
    record { quotes = refl; texts = same.0; leads = w.0 ∙ same.0 ∙ sym v.0; rests = same.1 }

stops-black : (r : List ℕ) (b : ℕ) (bs : List ℕ) → r ≡ b ∷ bs → is_white b ≡ false → IsRunEnd true r
stops-black r b bs e h = subst (λ (z : List ℕ). IsRunEnd true z) (sym e) h

next-stops : (t : Token) (at : ℕ) (xs gap lead after : List ℕ) → IsNextToken t at xs gap lead after → IsRunEnd true (lead ++ after)
next-stops t at xs gap lead after n = let f = black t.quoted t.text lead after n.written in stops-black (lead ++ after) f.0 f.1.0 f.1.1 f.1.2

record SameNext (t u : Token) (gap gap' lead lead' after after' : List ℕ) : Type 0 where
  tokens : t ≡ u
  gaps : gap ≡ gap'
  leads : lead ≡ lead'
  rests : after ≡ after'

same-token : (t u : Token) → t.at ≡ u.at → t.quoted ≡ u.quoted → t.text ≡ u.text → t ≡ u
same-token t u a q x = ap (λ (n : ℕ). record t { at = n }) a ∙ ap (λ (b : Bool). record u { quoted = b; text = t.text }) q ∙ ap (λ (z : List ℕ). record u { text = z }) x

one-next : (t u : Token) (at : ℕ) (xs gap gap' lead lead' after after' : List ℕ) → IsNextToken t at xs gap lead after → IsNextToken u at xs gap' lead' after' → SameNext t u gap gap' lead lead' after after'
one-next t u at xs gap gap' lead lead' after after' n m =
    let cut = split-kind true gap gap' (lead ++ after) (lead' ++ after') n.white m.white (next-stops t at xs gap lead after n) (next-stops u at xs gap' lead' after' m) (sym n.whole ∙ m.whole) in
    let same = one-written t.quoted u.quoted t.text u.text lead lead' after after' n.written m.written cut.1 in
    record {
      tokens = same-token t u (n.place ∙ ap (λ (z : List ℕ). at + length z) cut.0 ∙ sym m.place) same.quotes same.texts;
      gaps = cut.0;
      leads = same.leads;
      rests = same.rests;
    }

-- a token, the end and an open quote exclude one another
all-behind : (xs ys : List ℕ) → AllAre is_white true (xs ++ ys) → AllAre is_white true ys
all-behind [] ys h = h
all-behind (x ∷ xs) ys h = all-behind xs ys h.1

not-white : (xs gap r : List ℕ) (b : ℕ) (bs : List ℕ) → xs ≡ gap ++ r → r ≡ b ∷ bs → is_white b ≡ false → AllAre is_white true xs → ⊥
not-white xs gap r b bs e f h w =
    let all : AllAre is_white true (b ∷ bs) = all-behind gap (b ∷ bs) (subst (λ (z : List ℕ). AllAre is_white true z) (e ∙ ap (λ (z : List ℕ). gap ++ z) f) w) in
    true≢false (sym all.0 ∙ h)

pub white-no-token : (at : ℕ) (xs : List ℕ) → AllWhite at xs → (t : Token) (gap lead after : List ℕ) → IsNextToken t at xs gap lead after → ⊥
white-no-token at xs w t gap lead after n = let f = black t.quoted t.text lead after n.written in not-white xs gap (lead ++ after) f.0 f.1.0 n.whole f.1.1 f.1.2 w

pub white-not-open : (place at : ℕ) (xs : List ℕ) → AllWhite at xs → IsOpenQuote place at xs → ⊥
white-not-open place at xs w o = not-white xs o.gap (34 ∷ o.behind) 34 o.behind o.whole refl white-quote w

closed-open : (xs : List (ℕ × Bool)) (after behind : List ℕ) → ArePieces xs → IsUnclosed behind → spelled xs ++ 34 ∷ after ≡ behind → ⊥
closed-open xs after behind h o e = elim o.whole [
  | inl f ↦ closed-not-open xs o.pieces after [] h o.lawful (inl refl) (e ∙ f ∙ sym (append-nil (spelled o.pieces)))
  | inr f ↦ closed-not-open xs o.pieces after (92 ∷ []) h o.lawful (inr refl) (e ∙ f)
]

written-open : (q : Bool) (text lead after behind : List ℕ) → IsTokenText q text lead after → IsUnclosed behind → lead ++ after ≡ 34 ∷ behind → ⊥
written-open true text lead after behind w o e =
    closed-open w.pieces after behind w.lawful o (tail-is 34 34 (spelled w.pieces ++ 34 ∷ after) behind (sym (closing text lead after w) ∙ e))
written-open false text lead after behind w o e = quote-word text after behind w.1 (ap (λ (z : List ℕ). z ++ after) (sym w.0) ∙ e)

pub open-no-token : (place at : ℕ) (xs : List ℕ) → IsOpenQuote place at xs → (t : Token) (gap lead after : List ℕ) → IsNextToken t at xs gap lead after → ⊥
open-no-token place at xs o t gap lead after n =
    let cut = split-kind true gap o.gap (lead ++ after) (34 ∷ o.behind) n.white o.white (next-stops t at xs gap lead after n) white-quote (sym n.whole ∙ o.whole) in
    written-open t.quoted t.text lead after o.behind n.written o.stays cut.1

pub one-open : (p q at : ℕ) (xs : List ℕ) → IsOpenQuote p at xs → IsOpenQuote q at xs → p ≡ q
one-open p q at xs o n =
    let cut = split-kind true o.gap n.gap (34 ∷ o.behind) (34 ∷ n.behind) o.white n.white white-quote white-quote (sym o.whole ∙ n.whole) in
    o.is ∙ ap (λ (z : List ℕ). at + length z) cut.0 ∙ sym n.is

-- Two readings have the same tokens and the same end.
module _ (A B : ℕ → List ℕ → Type 0) (C : Type 0)
    (no_a : (at : ℕ) (xs : List ℕ) → A at xs → (t : Token) (gap lead after : List ℕ) → IsNextToken t at xs gap lead after → ⊥)
    (no_b : (at : ℕ) (xs : List ℕ) → B at xs → (t : Token) (gap lead after : List ℕ) → IsNextToken t at xs gap lead after → ⊥)
    (ends : (at : ℕ) (xs : List ℕ) → A at xs → B at xs → C) where
  both : (ts us : List Token) (at : ℕ) (xs : List ℕ) → TokensThen A ts at xs → TokensThen B us at xs → (ts ≡ us) × C
  both [] [] at xs a b = (refl, ends at xs a b)
  both [] (u ∷ us) at xs a (gap, (lead, (after, n, rest))) = absurd (no_a at xs a u gap lead after n)
  both (t ∷ ts) [] at xs (gap, (lead, (after, n, rest))) b = absurd (no_b at xs b t gap lead after n)
  both (t ∷ ts) (u ∷ us) at xs (gap, (lead, (after, n, rest))) (gap', (lead', (after', m, last))) =
      let s = one-next t u at xs gap gap' lead lead' after after' n m in
      let one : TokensThen A ts (at + length gap' + length lead) after = subst (λ (z : List ℕ). TokensThen A ts (at + length z + length lead) after) s.gaps rest in
      let two : TokensThen A ts (at + length gap' + length lead') after = subst (λ (z : List ℕ). TokensThen A ts (at + length gap' + length z) after) s.leads one in
      let three : TokensThen A ts (at + length gap' + length lead') after' = subst (λ (z : List ℕ). TokensThen A ts (at + length gap' + length lead') z) s.rests two in
      let more = both ts us (at + length gap' + length lead') after' three last in
      (ap (λ (z : Token). z ∷ ts) s.tokens ∙ ap (λ (zs : List Token). u ∷ zs) more.0, more.1)

pub one-list : (text : List ℕ) (ts us : List Token) → AreTokens ts text → AreTokens us text → ts ≡ us
one-list text ts us a b = (both AllWhite AllWhite (Unit {0}) white-no-token white-no-token (λ at xs w v. tt) ts us 0 text a b).0

pub tokens-or-open : (text : List ℕ) (ts : List Token) (place : ℕ) → AreTokens ts text → IsOpenAt place text → ⊥
tokens-or-open text ts place a o = (both AllWhite (IsOpenQuote place) ⊥ white-no-token (open-no-token place) (white-not-open place) ts o.0 0 text a o.1).1

pub one-open-quote : (text : List ℕ) (p q : ℕ) → IsOpenAt p text → IsOpenAt q text → p ≡ q
one-open-quote text p q a b = (both (IsOpenQuote p) (IsOpenQuote q) (p ≡ q) (open-no-token p) (open-no-token q) (one-open p q) a.0 b.0 0 text a.1 b.1).1
