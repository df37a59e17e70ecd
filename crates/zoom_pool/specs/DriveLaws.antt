-- What a driven connection sends is decided by its history: one call at most is the driver's, with its ranges, and two
-- drives send the same requests.
use Rattle.std.specs.Prelude.{◌≡◌, ℕ, List, ◌++◌, slice_get, Some}
use Rattle.zorigin.specs.declared.settings.Settings.{Settings}
use Rattle.zorigin.specs.Standings.{Call}
use Rattle.zorigin.specs.Log.{Log}
use Rattle.zoom_questions.specs.declared.question.Question.{Question}
use Rattle.zoom_questions.specs.declared.question.MetaSettings.{MetaSettings}
use Rattle.zoom_pool.specs.Transcripts.{Transcript, IsTranscript, past_of}
use Rattle.zoom_pool.specs.History.{History, events_on}
use Rattle.zoom_pool.specs.Steering.{Errand, errand_of, IsDriverCall}
use Rattle.zoom_pool.specs.Drivers.{DriverState, IsDriver}
use Rattle.zoom_pool.specs.Metas.{MetaLinks, MetaAfterPartial, IsIdleUnlessStopped, call_events, settings_of}

-- two calls that are the driver's after the same log are the same call, with the same ranges
abbrev pub OneCallLaw : Type 0
OneCallLaw =
    (e : Errand) (settings : Settings) (log : Log) (d : DriverState) (one other : Call)
    → IsDriver e settings log d
    → IsDriverCall e settings log one → IsDriverCall e settings log other → one ≡ other

-- Two drives of a connection made these calls after the same history, and no call is next after either: they sent the
-- same requests, in the same order. `CompleteDrive` says this of `drive`, and the trace of a talk of each of its
-- drives.
abbrev pub OneDriveLaw : Type 0
OneDriveLaw =
    (questions : List Question) (s : MetaSettings) (some more : List ℕ) (c : ℕ) (question : Question) (h : History)
    (calls others : List Call) (one other : MetaLinks) (p q : Transcript)
    → slice_get questions c ≡ Some question
    → MetaAfterPartial questions s some (call_events c calls ++ h) one
    → MetaAfterPartial questions s more (call_events c others ++ h) other
    → IsTranscript (settings_of s) (events_on c (call_events c calls ++ h)) p
    → IsTranscript (settings_of s) (events_on c (call_events c others ++ h)) q
    → IsIdleUnlessStopped (errand_of s question) p → IsIdleUnlessStopped (errand_of s question) q
    → past_of p ≡ past_of q

-- the laws of drives
pub record DriveLaws : Type 0 where
  pub call : OneCallLaw
  pub drive : OneDriveLaw
