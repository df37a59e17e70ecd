-- The tokens so far, and what is left of the text.
use Rattle.std.proofs.Common.{◌≡◌, refl, sym, ◌∙◌, ap, subst, ℕ, ◌+◌, ◌-◌, ◌≤◌, List, [], ◌∷◌, ◌++◌, Bool, true, false, ◌==◌, length, arith, append_assoc, append-nil, length-append}
use Rattle.zquery.specs.declared.notation.token.Token.{Token}
use Rattle.zquery.specs.Notation.Tokens.{is_white, AllAre, IsUnclosed, IsTokenEnd, IsUnquoted, IsTokenText, TokensThen, AllWhite, IsOpenQuote, AreTokens, IsOpenAt, spelled}
use Rattle.zquery.specs.Notation.Lexing.{QuotedFront, UnquotedFront}

pub all-append : (v : Bool) (xs : List ℕ) (b : ℕ) → AllAre is_white v xs → is_white b ≡ v → AllAre is_white v (xs ++ b ∷ [])
all-append v [] b h e = (e, tt)
all-append v (x ∷ xs) b h e = (h.0, all-append v xs b h.1 e)

next-place : (at total : ℕ) (octets gap lead after : List ℕ) → octets ≡ gap ++ (lead ++ after) → at + length octets ≡ total → (at + length gap + length lead) + length after ≡ total
next-place at total octets gap lead after e t = omega (arith, ap length e, length-append gap (lead ++ after), length-append lead after)

-- what is said of the octets behind tokens may be said in further tokens
pub then-on : (total : ℕ) (Rest Last : ℕ → List ℕ → Type 0) (us : List Token) → ((at : ℕ) (octets : List ℕ) → at + length octets ≡ total → Rest at octets → TokensThen Last us at octets)
    → (ts : List Token) (at : ℕ) (octets : List ℕ) → at + length octets ≡ total → TokensThen Rest ts at octets → TokensThen Last (ts ++ us) at octets
then-on total Rest Last us step [] at octets e h = step at octets e h
then-on total Rest Last us step (t ∷ ts) at octets e (gap, (lead, (after, n, rest))) =
    (gap, (lead, (after, n, then-on total Rest Last us step ts (at + length gap + length lead) after (next-place at total octets gap lead after n.whole e) rest)))

-- behind white space this is left
pub record WhiteThen (left : List ℕ) (at : ℕ) (octets : List ℕ) : Type 0 where
  pub gap : List ℕ
  pub white : AllAre is_white true gap
  pub whole : octets ≡ gap ++ left

-- the tokens so far, and what is left of the text
pub record LexedFront (text : List ℕ) (out : List Token) (left : List ℕ) : Type 0 where
  pub below : length left ≤ length text
  pub front : TokensThen (WhiteThen left) out 0 text

on-white : (left : List ℕ) (b : ℕ) (after : List ℕ) (at : ℕ) (octets : List ℕ) → left ≡ b ∷ after → is_white b ≡ true → WhiteThen left at octets → WhiteThen after at octets
on-white left b after at octets e w l = record {
  gap = l.gap ++ b ∷ [];
  white = all-append true l.gap b l.white w;
  whole = l.whole ∙ ap (λ (z : List ℕ). l.gap ++ z) e ∙ sym (append_assoc l.gap (b ∷ []) after);
}

pub lexed-white : (text : List ℕ) (out : List Token) (left : List ℕ) (b : ℕ) (after : List ℕ) → LexedFront text out left → left ≡ b ∷ after → is_white b ≡ true → LexedFront text out after
lexed-white text out left b after l e w = record {
  below = omega (arith, l.below, ap length e);
  front = subst (λ (z : List Token). TokensThen (WhiteThen after) z 0 text) (append-nil out)
      (then-on (length text) (WhiteThen left) (WhiteThen after) [] (λ at octets s r. on-white left b after at octets e w r) out 0 text (omega arith) l.front);
}

-- where what is left begins
left-place : (text left : List ℕ) (at : ℕ) (octets : List ℕ) (l : WhiteThen left at octets) → at + length octets ≡ length text → length text - length left ≡ at + length l.gap
left-place text left at octets l e = omega (arith, ap length l.whole, length-append l.gap left)

pub lexed-token : (text : List ℕ) (out out' : List Token) (left : List ℕ) (t : Token) (lead after : List ℕ) → LexedFront text out left → left ≡ lead ++ after → IsTokenText t.quoted t.text lead after
    → t.at ≡ length text - length left → out' ≡ out ++ t ∷ [] → LexedFront text out' after
lexed-token text out out' left t lead after l e w p o = record {
  below = omega (arith, l.below, ap length e, length-append lead after);
  front = subst (λ (z : List Token). TokensThen (WhiteThen after) z 0 text) (sym o)
      (then-on (length text) (WhiteThen left) (WhiteThen after) (t ∷ [])
      (λ at octets s r. (
        r.gap,
        (
          lead,
          (
            after,
            record { white = r.white; place = p ∙ left-place text left at octets r s; written = w; whole = r.whole ∙ ap (λ (z : List ℕ). r.gap ++ z) e },
            record { gap = []; white = tt; whole = refl },
          ),
        ),
      ))
      out 0 text (omega arith) l.front);
}

pub lexed-quoted : (text : List ℕ) (out out' : List Token) (left behind content after : List ℕ) (t : Token) → LexedFront text out left → left ≡ 34 ∷ behind → QuotedFront behind content after
    → t ≡ record { at = length text - length left; quoted = true; text = content } → out' ≡ out ++ t ∷ [] → LexedFront text out' after
lexed-quoted text out out' left behind content after t l e c s o =
    let u : Token = record { at = length text - length left; quoted = true; text = content } in
    let lead : List ℕ = 34 ∷ (spelled c.pieces ++ 34 ∷ []) in
    let whole : left ≡ lead ++ after = e ∙ ap (λ (z : List ℕ). 34 ∷ z) (c.whole ∙ sym (append_assoc (spelled c.pieces) (34 ∷ []) after)) in
    lexed-token text out out' left u lead after l whole (record { pieces = c.pieces; lawful = c.lawful; text_is = c.text_is; whole = refl }) refl (o ∙ ap (λ (v : Token). out ++ v ∷ []) s)

same-head : (b x : ℕ) (bs xs : List ℕ) → b ∷ bs ≡ x ∷ xs → b ≡ x
same-head b x bs xs h = cc

is-word : (b : ℕ) (bs text after : List ℕ) → b ∷ bs ≡ text ++ after → is_white b ≡ false → (b == 34) ≡ false → AllAre is_white false text → IsTokenEnd after → IsUnquoted text
is-word b bs [] [] e w q a n = absurd (Prim.cc e)
is-word b bs [] (c ∷ cs) e w q a n = let same : b ≡ c = same-head b c bs cs e in absurd (let z : true ≡ false = sym n ∙ ap is_white (sym same) ∙ w in Prim.cc z)
is-word b bs (x ∷ xs) after e w q a n = (ap (λ (c : ℕ). c == 34) (sym (same-head b x bs (xs ++ after) e)) ∙ q, a)

pub lexed-word : (text : List ℕ) (out out' : List Token) (left : List ℕ) (b : ℕ) (bs content after : List ℕ) (t : Token) → LexedFront text out left → left ≡ b ∷ bs → is_white b ≡ false → (b == 34) ≡ false
    → UnquotedFront left content after → t ≡ record { at = length text - length left; quoted = false; text = content } → out' ≡ out ++ t ∷ [] → LexedFront text out' after
lexed-word text out out' left b bs content after t l e w q f s o =
    let u : Token = record { at = length text - length left; quoted = false; text = content } in
    lexed-token text out out' left u content after l f.whole (refl, is-word b bs content after (sym e ∙ f.whole) w q f.word f.ends, f.ends) refl (o ∙ ap (λ (v : Token). out ++ v ∷ []) s)

pub lexed-open : (text : List ℕ) (out : List Token) (left behind : List ℕ) (place : ℕ) → LexedFront text out left → left ≡ 34 ∷ behind → place ≡ length text - length left → IsUnclosed behind → IsOpenAt place text
lexed-open text out left behind place l e p s = (
  out ++ [],
  then-on (length text) (WhiteThen left) (IsOpenQuote place) []
      (λ at octets z r. record { gap = r.gap; behind = behind; white = r.white; whole = r.whole ∙ ap (λ (y : List ℕ). r.gap ++ y) e; is = p ∙ left-place text left at octets r z; stays = s })
      out 0 text (omega arith) l.front,
)

pub lexed-all : (text : List ℕ) (out : List Token) (left : List ℕ) → LexedFront text out left → left ≡ [] → AreTokens out text
lexed-all text out left l e =
    subst (λ (z : List Token). TokensThen AllWhite z 0 text) (append-nil out)
    (then-on (length text) (WhiteThen left) AllWhite []
    (λ at octets z r. subst (λ (y : List ℕ). AllAre is_white true y) (sym (r.whole ∙ ap (λ (y : List ℕ). r.gap ++ y) e ∙ append-nil r.gap)) r.white)
    out 0 text (omega arith) l.front)
