-- A world that was read can be planned.
use Rattle.std.proofs.Common.{◌≡◌, ◌∙◌, sym, ap, subst, refl, ℕ, ◌+◌, ◌<◌, ◌≤◌, ◌^◌, Bool, true, false, if◌then◌else◌, List, [], ◌∷◌, ◌++◌, length, Option, Some, None, arith}
use Rattle.std.specs.Option.{option_map}
use Rattle.zquery.specs.Trees.{RpnQuery}
use Rattle.zoom_questions.specs.Askable.{AreAskable, IsAskable, HasFewArcs}
use Rattle.zmeta_world.specs.Finding.{questions_of}
use Rattle.zmeta_world.specs.InMemoryRuns.{IsFit}
use Rattle.zmeta_world.specs.WorldLines.{token_texts}
use Rattle.zmeta_world.specs.Worlds.{AfterLine, AreWorld, none, more, IsWorld, in_last, in_target, with_targets, change_target, new_target, new_host, add_content, in_database, add_database, asked_question, question, move_of, end_of, is_defined, is_among, place_of, asked_names, target_names}
use Rattle.zmeta_world.specs.declared.world.World.{World}
use Rattle.zmeta_world.specs.declared.world.AskedQuestion.{AskedQuestion}
use Rattle.zmeta_world.specs.declared.world.NamedTarget.{NamedTarget}
use Rattle.zmeta_world.specs.declared.world.line.AskLine.{AskLine}
use Rattle.zmeta_world.specs.declared.world.line.Line.{Line}
use Rattle.zmeta_world.specs.declared.world.line.Line.TheVariants as lines
use Rattle.zmeta_world.proofs.WorldParsing.{none_some, some_same}
use Rattle.zmeta_world.proofs.FitWants.{Fits, mapped}
use Rattle.zmeta_world.proofs.FitLines.{IsWithin, line_within}
use Rattle.zmeta_world.proofs.FitLoads.{world_load, small}

-- the questions, and the settings for them
record Asked : Type 0 where
  questions : List AskedQuestion
  step : ℕ
  window : ℕ

abbrev asked : World → Asked
asked w = record { questions = w.questions; step = w.step; window = w.window }

record IsSane (a : Asked) : Type 0 where
  askable : AreAskable (questions_of a.questions)
  some : 0 < a.step
  most : a.step ≤ 1000
  room : 0 < a.window
  widest : a.window ≤ 64

-- ---- questions

askable_more : (qs : List AskedQuestion) (i : AskedQuestion) → AreAskable (questions_of qs) → IsAskable i.question → AreAskable (questions_of (qs ++ i ∷ []))
askable_more [] i h q = (q, tt)
askable_more (j ∷ qs) i h q = (h.0, askable_more qs i h.1 q)

wanted_askable : (line : AskLine) (query : RpnQuery) → Fits 1 1000000 line.wanted → HasFewArcs line.syntax → IsAskable (question line query)
wanted_askable line query f a = record {
  wanted = record { apart = f.apart; bounded = f.bounded };
  some = f.some;
  syntax = a;
}

-- ---- a line

chosen : (b : Bool) (x v : World) → (if b then None else Some x) ≡ Some v → asked x ≡ asked v
chosen true x v e = absurd (none_some e)
chosen false x v e = ap asked (some_same x v e)

with : {A : Type 0} (b : Bool) (change : A → World) (a : Asked) (o : Option A) (v : World) → ((x : A) → asked (change x) ≡ a) → (if b then option_map change o else None) ≡ Some v → a ≡ asked v
with true change a o v same e = let m = mapped change o v e in sym (same m.from) ∙ ap asked m.gives
with false change a o v same e = absurd (none_some e)

targets : (change : NamedTarget → Option NamedTarget) (w v : World) → change_target change w ≡ Some v → asked w ≡ asked v
targets change w v e = let m = mapped (with_targets w) (in_last change w.targets) v e in ap asked m.gives

with_one : {A : Type 0} (b : Bool) (change : A → World) (o : Option A) (v : World) → ((x : A) → IsSane (asked (change x))) → (if b then None else option_map change o) ≡ Some v → IsSane (asked v)
with_one true change o v sane e = absurd (none_some e)
with_one false change o v sane e = let m = mapped change o v e in subst (λ z. IsSane (asked z)) m.gives (sane m.from)

keeps : (number : ℕ) (line : Line) (w v : World) → IsWithin line → AfterLine number line w v → IsSane (asked w) → IsSane (asked v)
keeps number lines.Empty w v i h s = subst IsSane (ap asked (some_same w v h)) s
keeps number (lines.Step n) w v i h s =
    subst IsSane (ap asked (some_same (record w { step = n }) v h))
    (record { askable = s.askable; some = omega (arith, i.0); most = i.1; room = s.room; widest = s.widest })
keeps number (lines.Window n) w v i h s =
    subst IsSane (ap asked (some_same (record w { window = n }) v h))
    (record { askable = s.askable; some = s.some; most = s.most; room = omega (arith, i.0); widest = i.1 })
keeps number (lines.Target name settings) w v i h s =
    subst IsSane (chosen (is_defined name w.targets w.hosts) (with_targets w (w.targets ++ new_target name settings ∷ [])) v h) s
keeps number (lines.Host name address) w v i h s =
    subst IsSane (chosen (is_defined name w.targets w.hosts) (record w { hosts = w.hosts ++ new_host name address ∷ [] }) v h) s
keeps number (lines.Database name) w v i h s = subst IsSane (targets (add_database name) w v h) s
keeps number (lines.Content content) w v i h s =
    subst IsSane (targets (in_target (in_database (add_content content))) w v h) s
keeps number (lines.Ask line) w v i h s =
    with_one (is_among line.name (asked_names w.questions)) (λ end. record w { questions = w.questions ++ asked_question number line h.0 end ∷ [] }) (end_of line.name w.targets w.hosts) v
    (λ end. record {
      askable = askable_more w.questions (asked_question number line h.0 end) s.askable (wanted_askable line h.0 i.0 i.1);
      some = s.some;
      most = s.most;
      room = s.room;
      widest = s.widest;
    })
    h.2
keeps number (lines.Carry way name k) w v i h s =
    subst IsSane (with (is_among name (target_names w.targets)) (λ c. record w { moves = w.moves ++ move_of way c k ∷ [] }) (asked w) (place_of name (asked_names w.questions)) v (λ c. refl) h) s

lines_sane : {front : List (List ℕ)} {w : World} → AreWorld front w → IsSane (asked w)
lines_sane none = record { askable = tt; some = omega arith; most = omega arith; room = omega arith; widest = omega arith }
lines_sane (more {front = front} {text = text} {w = w} {v = v} a m) =
    keeps (length front + 1) m.line w v (line_within (token_texts m.tokens) m.line m.meaning) m.effect (lines_sane a)

-- ---- the law

pub world_fit : (file : List ℕ) (w : World) → length file < 2 ^ 32 → IsWorld file w → IsFit w
world_fit file w h is =
    let most = world_load file w is in
    let s = lines_sane is in
    record {
      few = omega (arith, most, h);
      askable = s.askable;
      settings = λ name short. record { name = short; steps = s.some; most = s.most; room = s.room; widest = s.widest };
      small = small w.targets (omega (arith, most, h));
    }
