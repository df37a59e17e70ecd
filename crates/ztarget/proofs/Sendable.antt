-- Each pending reply has an element, also when one was put last or taken out.
use Rattle.std.proofs.Common.{◌≡◌, sym, subst, ℕ, suc, List, ◌∷◌, [], ◌++◌, Option, Some, None, IfSome, Result, Ok, Err, IfOk, take, drop}
use Rattle.std.specs.List.{All, remove}
use Rattle.std.proofs.lemmas.Option.{slice_get_within, get_or_from_slice_get}
use Rattle.std.proofs.lemmas.List.Elements.{All-append, All-take, All-drop, All-push, All-same, All-get_or}
use Rattle.zapdu.specs.declared.apdu.Apdu.{Apdu}
use Rattle.ztarget.specs.Levels.{HasElement}
use Rattle.ztarget.specs.Receiving.{TakeOutStep}

pub put_last : (old new : List Apdu) (apdu : Apdu) → new ≡ old ++ apdu ∷ [] → All HasElement old → HasElement apdu → All HasElement new
put_last old new apdu is h last = All-same HasElement new (old ++ apdu ∷ []) is (All-push HasElement old apdu h last)

pub others_left : (old new : List Apdu) (k : ℕ) (o : Option Apdu) → TakeOutStep old k o new → All HasElement old → All HasElement new
others_left old new k None h all = All-same HasElement new old h.1 all
others_left old new k (Some apdu) h all =
    All-same HasElement new (remove old k) h.2
    (All-append HasElement (take k old) (drop (suc k) old) (All-take HasElement k old all) (All-drop HasElement (suc k) old all))

pub one_taken : (old new : List Apdu) (k : ℕ) (o : Option Apdu) → TakeOutStep old k o new → All HasElement old → IfSome o HasElement
one_taken old new k None h all = tt
one_taken old new k (Some apdu) h all =
    subst HasElement (get_or_from_slice_get old k apdu apdu h.1) (All-get_or HasElement old k apdu (slice_get_within old k apdu h.1) all)

-- what a call gives is known, where it gives something
pub known_ok : {A E : Type 0} (P : A → Type 0) (v : A) (r : Result A E) → IfOk r (λ x. x ≡ v) → P v → IfOk r P
known_ok P v (Ok x) h p = subst P (sym h) p
known_ok P v (Err e) h p = tt

-- the same of a part of it
pub part_known_ok : {A B E : Type 0} (part : A → B) (P : B → Type 0) (v : B) (r : Result A E) → IfOk r (λ x. part x ≡ v) → P v → IfOk r (λ x. P (part x))
part_known_ok part P v (Ok x) h p = subst P (sym h) p
part_known_ok part P v (Err e) h p = tt
