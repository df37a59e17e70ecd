-- Octets behind a first quote, read from the left.
use Rattle.std.proofs.Common.{◌≡◌, refl, sym, ◌∙◌, ap, ℕ, List, [], ◌∷◌, ◌++◌, Bool, true, false, ◌==◌, ◌||◌, ◌⊎◌, inl, inr, map, append_assoc, append-nil}
use Rattle.std.proofs.lemmas.Bool.Decides.{Decides-eqb}
use Rattle.std.proofs.lemmas.List.{map-append}
use Rattle.std.proofs.lemmas.Grind.{flat_map-append}
use Rattle.zquery.specs.Notation.Tokens.{piece, ArePieces, spelled}

-- the octets are pieces, and then what is left
pub record QuotedPieces (octets text left : List ℕ) : Type 0 where
  pub pieces : List (ℕ × Bool)
  pub lawful : ArePieces pieces
  pub text_is : text ≡ map (λ x. x.0) pieces
  pub whole : octets ≡ spelled pieces ++ left

pieces-append : (xs : List (ℕ × Bool)) (x : ℕ × Bool) → ArePieces xs → ((x.1 ≡ true) ⊎ (((x.0 == 34) || (x.0 == 92)) ≡ false)) → ArePieces (xs ++ x ∷ [])
pieces-append [] x h f = (f, tt)
pieces-append (y ∷ xs) x h f = (h.0, pieces-append xs x h.1 f)

one-more : (octets text left after : List ℕ) (x : ℕ × Bool) (text' : List ℕ) → QuotedPieces octets text left → left ≡ piece x ++ after → ((x.1 ≡ true) ⊎ (((x.0 == 34) || (x.0 == 92)) ≡ false)) → text' ≡ text ++ x.0 ∷ [] → QuotedPieces octets text' after
one-more octets text left after x text' q e f t = record {
  pieces = q.pieces ++ x ∷ [];
  lawful = pieces-append q.pieces x q.lawful f;
  text_is = t ∙ ap (λ (z : List ℕ). z ++ x.0 ∷ []) q.text_is ∙ sym (map-append (λ (y : ℕ × Bool). y.0) q.pieces (x ∷ []));
  whole = q.whole ∙ ap (λ (z : List ℕ). spelled q.pieces ++ z) e ∙ sym (append_assoc (spelled q.pieces) (piece x) after)
      ∙ ap (λ (z : List ℕ). z ++ after) (ap (λ (z : List ℕ). spelled q.pieces ++ z) (sym (append-nil (piece x))) ∙ sym (flat_map-append piece q.pieces (x ∷ [])));
}

pub quotes-escaped : (octets text left after : List ℕ) (c : ℕ) (text' : List ℕ) → QuotedPieces octets text left → left ≡ 92 ∷ c ∷ after → text' ≡ text ++ c ∷ [] → QuotedPieces octets text' after
quotes-escaped octets text left after c text' q e t = one-more octets text left after (c, true) text' q e (inl refl) t

pub quotes-plain : (octets text left after : List ℕ) (b : ℕ) (text' : List ℕ) → QuotedPieces octets text left → left ≡ b ∷ after → ((b == 34) || (b == 92)) ≡ false → text' ≡ text ++ b ∷ [] → QuotedPieces octets text' after
quotes-plain octets text left after b text' q e f t = one-more octets text left after (b, false) text' q e (inr f) t

not-true : (v : Bool) → (v ≡ true → ⊥) → v ≡ false
not-true true h = absurd (h refl)
not-true false h = refl

pub neither : (b : ℕ) → (b ≡ 34 → ⊥) → (b ≡ 92 → ⊥) → ((b == 34) || (b == 92)) ≡ false
neither b h k =
    ap (λ (v : Bool). v || (b == 92)) (not-true (b == 34) (λ e. h ((Decides-eqb b 34).0 e))) ∙ not-true (b == 92) (λ e. k ((Decides-eqb b 92).0 e))

pub not-quote : (b : ℕ) → (b ≡ 34 → ⊥) → (b == 34) ≡ false
not-quote b h = not-true (b == 34) (λ e. h ((Decides-eqb b 34).0 e))
