-- What was told of one connection.
use Rattle.std.proofs.Common.{◌≡◌, refl, sym, ℕ, ◌<◌, ◌≤◌, true, false, List, Option, Some, None, arith}
use Rattle.zoom_asking.specs.declared.inquiry.Report.{Report}
use Rattle.zoom_trace.specs.declared.notice.Notice.{Notice}
use Rattle.zoom_trace.specs.declared.recording.Recorder.{Recorder}
use Rattle.zoom_trace.specs.Replays.{size_of}
use Rattle.zoom_trace.specs.Recording.{reported, received, noticed, IsRecordedWith}
use Rattle.zoom_trace.proofs.Recorded.{with_more}
use Rattle.zoom_tcp.specs.Telling.{is_failure, IsToldIf, IsHeardIf}

-- a connection that is not there
pub none_told : {W : Type 0} (contents : W → Option (List ℕ)) (at c : ℕ) (report : Report) (r : Recorder W)
    → size_of r.asking ≤ c → IsToldIf contents at c report r r
none_told contents at c report r h =
    record { told = λ below. absurd (omega (arith, below, h)); outside = λ _. refl }

-- a report of which the system does not tell why
pub report_told : {W : Type 0} (contents : W → Option (List ℕ)) (at c : ℕ) (report : Report) (old new : Recorder W)
    → c < size_of old.asking → is_failure report ≡ false → IsRecordedWith contents (reported at c report) old new
    → IsToldIf contents at c report old new
report_told contents at c report old new below f a = record {
  told = λ _. record { notice = None; failure = sym f; are = a };
  outside = λ h. absurd (omega (arith, below, h));
}

-- one of which it may
pub failure_told : {W : Type 0} (contents : W → Option (List ℕ)) (at c : ℕ) (report : Report) (notice : Notice)
    (old mid new : Recorder W)
    → c < size_of old.asking → is_failure report ≡ true → IsRecordedWith contents (reported at c report) old mid
    → IsRecordedWith contents (noticed at c notice) mid new → IsToldIf contents at c report old new
failure_told contents at c report notice old mid new below f a b = record {
  told = λ _. record {
    notice = Some notice;
    failure = sym f;
    are = with_more contents (reported at c report) (noticed at c notice) old mid new a b;
  };
  outside = λ h. absurd (omega (arith, below, h));
}

pub none_heard : {W : Type 0} (contents : W → Option (List ℕ)) (at c : ℕ) (piece : List ℕ) (r : Recorder W)
    → size_of r.asking ≤ c → IsHeardIf contents at c piece r r
none_heard contents at c piece r h =
    record { heard = λ below. absurd (omega (arith, below, h)); outside = λ _. refl }

pub octets_heard : {W : Type 0} (contents : W → Option (List ℕ)) (at c : ℕ) (piece : List ℕ) (old new : Recorder W)
    → c < size_of old.asking → IsRecordedWith contents (received at c piece) old new
    → IsHeardIf contents at c piece old new
octets_heard contents at c piece old new below a =
    record { heard = λ _. a; outside = λ h. absurd (omega (arith, below, h)) }
