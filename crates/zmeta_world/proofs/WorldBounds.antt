-- How many questions a number of lines can make.
use Rattle.std.proofs.Common.{◌≡◌, ◌∙◌, sym, ap, ℕ, ◌≤◌, ◌+◌, List, [], ◌∷◌, ◌++◌, length, Bool, true, false, if◌then◌else◌, Option, Some, None, refl, arith, length-append}
use Rattle.std.specs.Option.{option_map}
use Rattle.zmeta_world.specs.Worlds.{AfterLine, AreWorld, none, more, with_targets, new_target, new_host, asked_question, move_of, end_of, is_defined, is_among, place_of, asked_names, target_names}
use Rattle.zmeta_world.specs.declared.world.World.{World}
use Rattle.zmeta_world.specs.declared.world.line.Line.{Line}
use Rattle.zmeta_world.specs.declared.world.line.Line.TheVariants as lines
use Rattle.zmeta_world.proofs.WorldParsing.{none_some, some_same}

same_asked : (x v : World) → Some x ≡ Some v → length x.questions ≡ length v.questions
same_asked x v e = ap (λ z. length z.questions) (some_same x v e)

-- a value that passed the test
chosen : (b : Bool) (x v : World) → (if b then None else Some x) ≡ Some v → length x.questions ≡ length v.questions
chosen true x v e = absurd (none_some e)
chosen false x v e = same_asked x v e

mapped : {A : Type 0} (n : ℕ) (change : A → World) (o : Option A) (v : World) → ((a : A) → length (change a).questions ≡ n) → option_map change o ≡ Some v → n ≡ length v.questions
mapped n change None v same e = absurd (none_some e)
mapped n change (Some a) v same e = sym (same a) ∙ same_asked (change a) v e

without : {A : Type 0} (b : Bool) (n : ℕ) (change : A → World) (o : Option A) (v : World) → ((a : A) → length (change a).questions ≡ n) → (if b then None else option_map change o) ≡ Some v → n ≡ length v.questions
without true n change o v same e = absurd (none_some e)
without false n change o v same e = mapped n change o v same e

with : {A : Type 0} (b : Bool) (n : ℕ) (change : A → World) (o : Option A) (v : World) → ((a : A) → length (change a).questions ≡ n) → (if b then option_map change o else None) ≡ Some v → n ≡ length v.questions
with true n change o v same e = mapped n change o v same e
with false n change o v same e = absurd (none_some e)

-- a line makes one question at most
leaves_one : (number : ℕ) (line : Line) (w v : World) → AfterLine number line w v → length v.questions ≤ length w.questions + 1
leaves_one number lines.Empty w v h = let same : length w.questions ≡ length v.questions = same_asked w v h in omega arith
leaves_one number (lines.Step n) w v h = let same : length w.questions ≡ length v.questions = same_asked (record w { step = n }) v h in omega arith
leaves_one number (lines.Window n) w v h = let same : length w.questions ≡ length v.questions = same_asked (record w { window = n }) v h in omega arith
leaves_one number (lines.Target name settings) w v h =
    let same : length w.questions ≡ length v.questions = chosen (is_defined name w.targets w.hosts) (record w { targets = w.targets ++ new_target name settings ∷ [] }) v h in omega arith
leaves_one number (lines.Host name address) w v h =
    let same : length w.questions ≡ length v.questions = chosen (is_defined name w.targets w.hosts) (record w { hosts = w.hosts ++ new_host name address ∷ [] }) v h in omega arith
leaves_one number (lines.Database name) w v h =
    let same : length w.questions ≡ length v.questions = mapped (length w.questions) (with_targets w) _ v (λ a. refl) h in omega arith
leaves_one number (lines.Content content) w v h =
    let same : length w.questions ≡ length v.questions = mapped (length w.questions) (with_targets w) _ v (λ a. refl) h in omega arith
leaves_one number (lines.Ask line) w v h =
    let same : length w.questions + 1 ≡ length v.questions =
    without (is_among line.name (asked_names w.questions)) (length w.questions + 1) (λ end. record w { questions = w.questions ++ asked_question number line h.0 end ∷ [] }) (end_of line.name w.targets w.hosts) v (λ end. length-append w.questions (asked_question number line h.0 end ∷ [])) h.2 in
    omega arith
leaves_one number (lines.Carry way name k) w v h =
    let same : length w.questions ≡ length v.questions =
    with (is_among name (target_names w.targets)) (length w.questions) (λ c. record w { moves = w.moves ++ move_of way c k ∷ [] }) (place_of name (asked_names w.questions)) v (λ c. refl) h in
    omega arith

-- there are no more questions than lines
pub few_questions : {front : List (List ℕ)} {w : World} → AreWorld front w → length w.questions ≤ length front
few_questions none = omega arith
few_questions (more {front = front} {text = text} {w = w} {v = v} a m) =
    let before : length w.questions ≤ length front = few_questions a in
    let step : length v.questions ≤ length w.questions + 1 = leaves_one (length front + 1) m.line w v m.effect in
    rw (length-append front (text ∷ [])) (omega arith)
