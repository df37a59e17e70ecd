-- What a report of a connection, or octets that came on it, add to what was recorded.
use Rattle.std.specs.Prelude.{◌≡◌, ◌⊎◌, ℕ, ◌<◌, ◌≤◌, ◌==◌, Bool, true, false, List, [], ◌∷◌, ◌++◌, Option, None, Some, is_some}
use Rattle.zoom_asking.specs.declared.inquiry.Report.{Report}
use Rattle.zoom_asking.specs.declared.inquiry.Report.TheVariants as reports
use Rattle.zoom_trace.specs.declared.entry.TraceEntry.{TraceEntry}
use Rattle.zoom_trace.specs.declared.notice.Notice.{Notice}
use Rattle.zoom_trace.specs.declared.recording.Recorder.{Recorder}
use Rattle.zoom_trace.specs.Replays.{size_of}
use Rattle.zoom_trace.specs.Recording.{reported, received, noticed, IsRecordedWith}
use Rattle.zoom_tcp.specs.declared.sockets.Happening.{Happening}
use Rattle.zoom_tcp.specs.declared.sockets.Happening.TheVariants as happenings

-- the system may tell why: no address was found, an attempt failed, or the connection ended
abbrev pub is_failure : Report → Bool
is_failure (reports.Resolved n) = n == 0
is_failure (reports.Connected k) = false
is_failure (reports.Unreachable k) = true
is_failure (reports.NoSocket k) = false
is_failure reports.Taken = false
is_failure reports.End = true
is_failure reports.Unreadable = true
is_failure reports.Unwritable = true

-- what was noticed of the host of connection c, if anything
abbrev pub noticed_if : ℕ → ℕ → Option Notice → List TraceEntry
noticed_if at c None = []
noticed_if at c (Some notice) = noticed at c notice

-- The report was recorded, at this time; and then, if the system may tell why, what was noticed of the host.
pub record IsTold
    {W : Type 0} (contents : W → Option (List ℕ)) (at c : ℕ) (report : Report) (old new : Recorder W)
    : Type 0 where
  pub notice : Option Notice
  pub failure : is_some notice ≡ is_failure report
  pub are : IsRecordedWith contents (reported at c report ++ noticed_if at c notice) old new

-- The same of a connection that is there. Of another nothing is recorded.
pub record IsToldIf
    {W : Type 0} (contents : W → Option (List ℕ)) (at c : ℕ) (report : Report) (old new : Recorder W)
    : Type 0 where
  pub told : c < size_of old.asking → IsTold contents at c report old new
  pub outside : size_of old.asking ≤ c → new ≡ old

-- the same of a report, if there is one
abbrev pub IsToldAny
    : {W : Type 0} → (W → Option (List ℕ)) → ℕ → ℕ → Option Report → Recorder W → Recorder W → Type 0
IsToldAny contents at c None old new = new ≡ old
IsToldAny contents at c (Some report) old new = IsToldIf contents at c report old new

-- The addresses of a host were told, however many they are; or nothing was, since its name is to be looked up.
abbrev pub IsBegun : {W : Type 0} → (W → Option (List ℕ)) → ℕ → ℕ → Recorder W → Recorder W → Type 0
IsBegun contents at c old new = ((count : ℕ) × IsToldIf contents at c (reports.Resolved count) old new) ⊎ (new ≡ old)

-- the same of a connection that has a host; of another nothing is told
abbrev pub IsBegunIf
    : {W : Type 0} → (W → Option (List ℕ)) → ℕ → ℕ → Option (List ℕ) → Recorder W → Recorder W → Type 0
IsBegunIf contents at c None old new = new ≡ old
IsBegunIf contents at c (Some name) old new = IsBegun contents at c old new

-- Octets of a connection that is there were recorded, at this time. Of another nothing is recorded.
pub record IsHeardIf
    {W : Type 0} (contents : W → Option (List ℕ)) (at c : ℕ) (piece : List ℕ) (old new : Recorder W)
    : Type 0 where
  pub heard : c < size_of old.asking → IsRecordedWith contents (received at c piece) old new
  pub outside : size_of old.asking ≤ c → new ≡ old

-- what happened on a connection was recorded, at this time
abbrev pub IsHappened
    : {W : Type 0} → (W → Option (List ℕ)) → ℕ → ℕ → Happening → Recorder W → Recorder W → Type 0
IsHappened contents at c (happenings.Report report) old new = IsToldIf contents at c report old new
IsHappened contents at c (happenings.Octets count) old new = (piece : List ℕ) × IsHeardIf contents at c piece old new
