-- What was reported to an asking, and the lines of that.
use Rattle.std.specs.Prelude.{◌≡◌, ℕ, List, [], ◌∷◌, ◌++◌, Option, None, Some, option_to_list, option_map}
use Rattle.zoom_clock.specs.declared.action.Action.{Action}
use Rattle.zoom_asking.specs.declared.inquiry.AskedHost.{AskedHost}
use Rattle.zoom_asking.specs.declared.inquiry.Manner.{Manner}
use Rattle.zoom_asking.specs.declared.inquiry.Report.{Report}
use Rattle.zoom_trace.specs.declared.entry.Given.{Given}
use Rattle.zoom_trace.specs.declared.entry.Given.TheVariants as givens
use Rattle.zoom_trace.specs.declared.entry.Traced.TheVariants as traced
use Rattle.zoom_trace.specs.declared.entry.TraceEntry.{TraceEntry}
use Rattle.zoom_trace.specs.declared.notice.Notice.{Notice}
use Rattle.zoom_trace.specs.declared.tracing.Tracer.{Tracer}
use Rattle.zoom_trace.specs.declared.recording.Recorder.{Recorder}
use Rattle.zoom_trace.specs.Lines.{AreWritable}
use Rattle.zoom_trace.specs.Reading.{entry_at}
use Rattle.zoom_trace.specs.Replays.{AreFedWith, size_of}
use Rattle.zoom_trace.specs.Tracing.{IsTracedIf}

-- ---- entries

-- the search was given this
abbrev pub began : ℕ → Given → TraceEntry
began at given = entry_at at (traced.Began given)

-- how long all may take, if that has a limit
abbrev pub total_given : ℕ → Option ℕ → List TraceEntry
total_given at total = option_to_list (option_map (λ n. began at (givens.Total n)) total)

-- how hosts are asked: the manner, and how long to wait for each and for all
abbrev pub opening : ℕ → Manner → AskedHost → Option ℕ → List TraceEntry
opening at manner host total =
    began at (givens.Manner manner) ∷ began at (givens.Connect host.connect) ∷ began at (givens.Patience host.patience)
    ∷ total_given at total

-- what was to be done, if anything
abbrev pub wanted : ℕ → Option Action → List TraceEntry
wanted at action = option_to_list (option_map (λ (a : Action). entry_at at (traced.Wanted a.c a.task)) action)

-- one entry
abbrev pub reported : ℕ → ℕ → Report → List TraceEntry
reported at c what = entry_at at (traced.Reported c what) ∷ []

abbrev pub received : ℕ → ℕ → List ℕ → List TraceEntry
received at c octets = entry_at at (traced.Received c octets) ∷ []

abbrev pub sent : ℕ → ℕ → List ℕ → List TraceEntry
sent at c octets = entry_at at (traced.Sent c octets) ∷ []

abbrev pub noticed : ℕ → ℕ → Notice → List TraceEntry
noticed at c notice = entry_at at (traced.Noticed c notice) ∷ []

-- ---- before and after

-- The asking was told what these entries tell, and the trace grew by their lines, if there is one.
pub record IsRecordedWith
    {W : Type 0} (contents : W → Option (List ℕ)) (entries : List TraceEntry) (old new : Recorder W)
    : Type 0 where
  pub fed : AreFedWith entries old.asking new.asking
  pub size : size_of new.asking ≡ size_of old.asking
  pub writable : AreWritable entries
  pub traced : IsTracedIf contents entries old.trace new.trace

-- the same with some entries
pub record IsRecordedOn {W : Type 0} (contents : W → Option (List ℕ)) (old new : Recorder W) : Type 0 where
  pub entries : List TraceEntry
  pub are : IsRecordedWith contents entries old new
