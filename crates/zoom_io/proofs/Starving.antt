-- A talk finds no memory.
use Rattle.std.proofs.Common.{◌≡◌, ◌∙◌, sym, subst, ℕ, suc, ◌-◌, ◌^◌, ◌<◌, ◌≤◌, List, ◌∷◌, ◌++◌, length, Ok, Err, append_assoc}
use Rattle.std.specs.Io.KnownBytes.{Consumes, IsAtEnd}
use Rattle.std.proofs.KnownBytes.{Consumes-trans}
use Rattle.zorigin.specs.Standings.{Call}
use Rattle.zoom_questions.specs.declared.question.Question.{Question}
use Rattle.zoom_questions.specs.declared.question.MetaSettings.{MetaSettings}
use Rattle.zoom_pool.specs.Transcripts.{InputEnded}
use Rattle.zoom_pool.specs.History.{History}
use Rattle.zoom_pool.specs.Metas.{MetaLinks, MetaAfterPartial, MetaRecorded, MetaIncompleteTake, DriveResult, CompleteDrive, Progress, call_events}
use Rattle.zoom_pool.proofs.MetaTakes.{more_partial}
use Rattle.zoom_pool.proofs.Pools.{only_other}
use Rattle.zoom_devices.specs.Devices.{DeviceState}
use Rattle.zoom_io.specs.TalkTraces.{Stage, Due, Listening, Waiting, Talk, TalkStep, StarvedTalkEvents, uncalled, unhanded, untaken, unfed, unended, too_many, HaltedTalk, HaltStep, take_count, same}
use Rattle.zoom_io.specs.TalkSteps.{HaltStepAlone}
use Rattle.zoom_io.proofs.OneConnection.{none_both, others_made, others_follow}

-- ---- the calls that are due

module _ (c : ℕ) (new : MetaLinks) (left held : DeviceState) (q : List Question) (s : MetaSettings) (partial : List ℕ)
    (h : History) (n : ℕ) (source sink : DeviceState)
  where
    -- These calls were made.
    halted_called : (old : MetaLinks) (t : Talk q s partial c h n Due old source left sink held) (calls : List Call)
        → MetaAfterPartial q s partial (call_events c calls ++ (t.more ++ h)) new
        → StarvedTalkEvents q s partial c h left partial (call_events c calls ++ t.more) t.read t.written n
        → HaltedTalk q s partial c h n new source left sink held
    halted_called old t calls a starves =
        let all : History = call_events c calls ++ t.more in
        let b : MetaAfterPartial q s partial (all ++ h) new =
        subst (λ z. MetaAfterPartial q s partial z new) (sym (append_assoc (call_events c calls) t.more h)) a in
        record {
          more = all;
          others = λ i far.
              none_both i (call_events c calls) t.more (others_made c i calls far) (others_follow i t.trace far);
          after = more_partial q s partial c (all ++ h) new b;
          talk = record {
            read = t.read;
            written = t.written;
            then_partial = partial;
            starves = starves;
            known = b;
            consumed = t.consumed;
            appended = t.appended;
          };
        }

    -- More messages were taken than memory can hold.
    pub halted_many : (t : Talk q s partial c h n Due new source left sink held) → 2 ^ 64 - 1 ≤ take_count t.more
        → HaltedTalk q s partial c h n new source left sink held
    halted_many t many = record {
      more = t.more;
      others = λ i far. others_follow i t.trace far;
      after = more_partial q s partial c (t.more ++ h) new t.known.0;
      talk = record {
        read = t.read;
        written = t.written;
        then_partial = partial;
        starves = too_many t.trace many;
        known = t.known.0;
        consumed = t.consumed;
        appended = t.appended;
      };
    }

-- Not all due calls were made.
pub halts_driven : (E : Type 0) (e : E) (c : ℕ) (old new : MetaLinks) → DriveResult {E = E} c (Err e) old new
    → HaltStepAlone c Due old new
halts_driven E e c old new drove left held q s partial h n source sink t =
    let d : Progress q s partial c (t.more ++ h) (drove q s partial (t.more ++ h) t.known.0).0 new =
    (drove q s partial (t.more ++ h) t.known.0).1 in
    halted_called c new left held q s partial h n source sink old t d.calls d.after (uncalled d.calls t.trace)

-- All due calls were made, and what waits was not handed out.
pub halts_unhanded : (E : Type 0) (c n : ℕ) (old mid new : MetaLinks) → DriveResult {E = E} c (Ok n) old mid
    → new ≡ mid → HaltStepAlone c Due old new
halts_unhanded E c n old mid new drove e left held q s partial h reads source sink t =
    let d : CompleteDrive q s partial c (t.more ++ h) n mid = drove q s partial (t.more ++ h) t.known.0 in
    let calls = d.progress.calls in
    halted_called c new left held q s partial h reads source sink old t calls
    (subst (MetaAfterPartial q s partial (call_events c calls ++ (t.more ++ h))) (sym e) d.progress.after)
    (unhanded calls t.trace (λ question p asks transcript. (d.rests question p asks transcript, d.tried p transcript)))

-- ---- takes

-- A message was not taken.
pub halts_untaken : (c : ℕ) (old new : MetaLinks) → MetaIncompleteTake c old new → HaltStepAlone c Listening old new
halts_untaken c old new keeps left held q s partial h n source sink t = record {
  more = t.more;
  others = λ i far. others_follow i t.trace far;
  after = keeps q s partial (t.more ++ h) t.known.0;
  talk = record {
    read = t.read;
    written = t.written;
    then_partial = c ∷ partial;
    starves = untaken t.trace;
    known = keeps q s partial (t.more ++ h) t.known.0;
    consumed = t.consumed;
    appended = t.appended;
  };
}

-- What was left at the end of the input was not taken.
pub halts_unended : (c : ℕ) (old mid new : MetaLinks) → MetaRecorded c InputEnded old mid
    → MetaIncompleteTake c mid new → (left held : DeviceState) → IsAtEnd left.octets
    → HaltStep c Waiting same old new left left held held
halts_unended c old mid new recorded keeps left held end q s partial h n source sink t =
    let a = keeps q s partial ((c, InputEnded) ∷ (t.more ++ h)) (recorded q s partial (t.more ++ h) t.known.0) in
    record {
      more = (c, InputEnded) ∷ t.more;
      others = λ i far. only_other c i InputEnded t.more far ∙ others_follow i t.trace far;
      after = a;
      talk = record {
        read = t.read;
        written = t.written;
        then_partial = c ∷ partial;
        starves = unended t.trace end;
        known = a;
        consumed = t.consumed;
        appended = t.appended;
      };
    }

-- ---- a piece

-- A piece was read and not fed.
pub halts_unfed : (c : ℕ) (old new : MetaLinks) (piece : List ℕ) (l l2 : DeviceState) → new ≡ old
    → Consumes l.octets l2.octets piece → 0 < length piece → length piece ≤ 4096
    → (held : DeviceState) → HaltStep c Waiting suc old new l l2 held held
halts_unfed c old new piece l l2 e consumed some few held q s partial h n source sink t =
    let a : MetaAfterPartial q s partial (t.more ++ h) new =
    subst (MetaAfterPartial q s partial (t.more ++ h)) (sym e) t.known.0 in
    record {
      more = t.more;
      others = λ i far. others_follow i t.trace far;
      after = more_partial q s partial c (t.more ++ h) new a;
      talk = record {
        read = t.read ++ piece;
        written = t.written;
        then_partial = partial;
        starves = unfed piece t.trace some few;
        known = a;
        consumed = Consumes-trans source.octets l.octets l2.octets t.read piece t.consumed consumed;
        appended = t.appended;
      };
    }

-- ---- one after the other

-- The talk halts after steps that went on.
pub halts_after : (c : ℕ) (from mid : Stage) (more : ℕ → ℕ) (a b d : MetaLinks) (k k2 k3 : DeviceState)
    → ((left : DeviceState) → TalkStep c from mid same a b left left k k2)
    → ((left : DeviceState) → HaltStep c mid more b d left left k2 k3)
    → (left : DeviceState) → HaltStep c from more a d left left k k3
halts_after c from mid more a b d k k2 k3 one off left q s partial h n source sink t =
    off left q s partial h n source sink ((one left).on q s partial h n source sink t)
