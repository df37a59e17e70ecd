-- The lines, one after the other.
use Rattle.std.proofs.Common.{◌≡◌, ◌∙◌, sym, ap, subst, ℕ, ◌+◌, ◌≤◌, ◌<◌, ◌^◌, ◌==◌, List, [], ◌∷◌, ◌++◌, length, Option, Some, None, Result, Ok, Err, IfErr, refl, arith, append_assoc, length-append}
use Rattle.std.specs.List.{slice_split}
use Rattle.std.specs.Option.{IfSome, option_map}
use Rattle.zmeta_world.specs.World.{pieces}
use Rattle.zmeta_world.specs.WorldLines.{lines_of}
use Rattle.zmeta_world.specs.WorldReading.{IsReading, HasItsNames, ReadLineResult, IsFaultOf, octets_left, world_of}
use Rattle.zmeta_world.specs.Worlds.{AreWorld, none, more, AfterLineText, empty}
use Rattle.zmeta_world.specs.declared.world.WorldError.{WorldError}
use Rattle.zmeta_world.specs.declared.world.WorldError.TheVariants as errors
use Rattle.zmeta_world.specs.declared.world.reader.Reader.{Reader}
use Rattle.zmeta_world.proofs.WorldBounds.{few_questions}

pub first_reading : (file : List ℕ) (r : Reader) → HasItsNames r → world_of r ≡ empty → IsReading file 0 (Some file) r
first_reading file r s e = record {
  front = [];
  cut = refl;
  place = refl;
  world = subst (AreWorld []) (sym e) none;
  names = s;
  within = omega arith;
}

first_cut : (file texts text : List ℕ) (front : List (List ℕ)) (after : Option (List ℕ)) → lines_of file ≡ front ++ pieces 10 (Some texts) → slice_split (λ b. b == 10) texts ≡ text ∷ pieces 10 after → lines_of file ≡ front ++ (text ∷ pieces 10 after)
first_cut file texts text front after e f = e ∙ ap (λ z. front ++ z) f

shorter : (number n : ℕ) (texts : List ℕ) (after : Option (List ℕ)) → number + (length texts + 1) ≤ n → IfSome (option_map length after) (λ k. k < length texts) → (number + 1) + octets_left after ≤ n
shorter number n texts None h s = omega (arith, h)
shorter number n texts (Some rest) h s = omega (arith, h, s)

pub less : {A : Type 0} (now : A → List ℕ) (n : ℕ) (after : Option A) → IfSome after (λ r. length (now r) < n) → IfSome (option_map length (option_map now after)) (λ k. k < n)
less now n None h = tt
less now n (Some r) h = h

pub next_reading : (file texts text : List ℕ) (number : ℕ) (after : Option (List ℕ)) (r q : Reader) → IsReading file number (Some texts) r → slice_split (λ b. b == 10) texts ≡ text ∷ pieces 10 after → IfSome (option_map length after) (λ k. k < length texts) → ReadLineResult (number + 1) text (world_of r) q (Ok tt) → IsReading file (number + 1) after q
next_reading file texts text number after r q i f s m = record {
  front = i.front ++ text ∷ [];
  cut = first_cut file texts text i.front after i.cut f ∙ sym (append_assoc i.front (text ∷ []) (pieces 10 after));
  place = ap (λ z. z + 1) i.place ∙ sym (length-append i.front (text ∷ []));
  world = more i.world (subst (λ z. AfterLineText (z + 1) text (world_of r) (world_of q)) i.place m.1);
  names = m.0;
  within = shorter number (length file + 1) texts after i.within s;
}

pub refused_line : (file texts text : List ℕ) (number : ℕ) (after : Option (List ℕ)) (r q : Reader) (e : WorldError) → IsReading file number (Some texts) r → slice_split (λ b. b == 10) texts ≡ text ∷ pieces 10 after → ReadLineResult (number + 1) text (world_of r) q (Err e) → IsFaultOf file e
refused_line file texts text number after r q (errors.Refused line) i f m = record {
  front = i.front;
  text = text;
  rest = pieces 10 after;
  world = world_of r;
  cut = first_cut file texts text i.front after i.cut f;
  place = m.0 ∙ ap (λ z. z + 1) i.place;
  before = i.world;
  fault = λ v h. m.1 v (subst (λ z. AfterLineText z text (world_of r) v) m.0 h);
}
refused_line file texts text number after r q errors.Memory i f m = tt

-- the number of questions and of lines that were read
pub few : (file texts : List ℕ) (number : ℕ) (r : Reader) → IsReading file number (Some texts) r → length file < 2 ^ 32 → length r.questions.items < 2 ^ 32
few file texts number r i h =
    let fewer : length r.questions.items ≤ length i.front = few_questions i.world in
    omega (arith, h, fewer, i.place, i.within)

pub refused_as : {A : Type 0} (file : List ℕ) (e f : WorldError) (r : Result A WorldError) → r ≡ Err f → f ≡ e → IsFaultOf file e → IfErr r (IsFaultOf file)
refused_as file e f r is of h = rw (is, of) h
