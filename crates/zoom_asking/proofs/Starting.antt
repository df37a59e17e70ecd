-- The asking as it is built: nothing was told, and nobody has the turn.
use Rattle.std.proofs.Common.{◌≡◌, ℕ, zero, suc, ◌+◌, Bool, true, false, not, List, [], ◌∷◌, ◌++◌, map, length, Option, Some, Vec, refl, sym, ap, subst, ◌∙◌, length-append}
use Rattle.std.proofs.Math.ListN.{length-map}
use Rattle.std.specs.Global.{Global}
use Rattle.std.specs.Prelude.{slice_get}
use Rattle.zoom_clock.specs.declared.plan.Plan.{Plan}
use Rattle.zoom_clock.specs.Clocks.{IsOrderly, all_planned}
use Rattle.zoom_pool.specs.Transcripts.{given}
use Rattle.zoom_pool.specs.Metas.{MetaAfter}
use Rattle.zoom_asking.specs.declared.asking.Asking.{Asking}
use Rattle.zoom_asking.specs.declared.inquiry.AskedHost.{AskedHost}
use Rattle.zoom_asking.specs.Buffers.{AreEmpty, octets_in}
use Rattle.zoom_asking.specs.Inquiries.{Inquiry, is_at_once, plan_of}
use Rattle.zoom_asking.specs.Hosts.{AskedConnection, course_of, first_host}
use Rattle.zoom_asking.specs.Askings.{Holds, AskingAfter, HasTurned, after_turns, tasks_for}

-- ---- empty buffers

pub no_buffers : (buffers : List (Vec ℕ Global)) → buffers ≡ [] → AreEmpty 0 buffers
no_buffers buffers e =
    record { size = ap length e; none = λ c. ap (λ (l : List (Vec ℕ Global)). octets_in (slice_get l c)) e }

none_more : (buffers : List (Vec ℕ Global)) (b : Vec ℕ Global) → ((c : ℕ) → octets_in (slice_get buffers c) ≡ [])
    → b.items ≡ [] → (c : ℕ) → octets_in (slice_get (buffers ++ b ∷ []) c) ≡ []
none_more [] b none e zero = e
none_more [] b none e (suc c) = refl
none_more (x ∷ xs) b none e zero = none zero
none_more (x ∷ xs) b none e (suc c) = none_more xs b (λ d. none (suc d)) e c

pub one_buffer : (k : ℕ) (buffers more : List (Vec ℕ Global)) (b : Vec ℕ Global) → AreEmpty k buffers → b.items ≡ []
    → more ≡ buffers ++ b ∷ [] → AreEmpty (k + 1) more
one_buffer k buffers more b a e put = record {
  size = ap length put ∙ length-append buffers (b ∷ []) ∙ ap (λ n. n + 1) a.size;
  none = λ c. ap (λ l. octets_in (slice_get l c)) put ∙ none_more buffers b a.none e c;
}

-- ---- the plans

not_not : (b : Bool) → not (not b) ≡ b
not_not true = refl
not_not false = refl

-- the courses are those of the connections
planned_courses : (i : Inquiry) (hosts : List (Option AskedHost))
    → all_planned i.start (is_at_once i.manner) (map (plan_of i.manner i.total) hosts)
    ≡ map (λ (h : AskedConnection). h.course) (map (first_host i) hosts)
planned_courses i [] = refl
planned_courses i (x ∷ hosts) = ap (λ l. course_of i x ∷ l) (planned_courses i hosts)

-- nothing happened, and nothing is to be done
abbrev IsFresh : AskedConnection → Type 0
IsFresh h = (h.events ≡ []) × (h.tasks ≡ [])

all_fresh : (i : Inquiry) (hosts : List (Option AskedHost)) (c : ℕ) (h : AskedConnection)
    → slice_get (map (first_host i) hosts) c ≡ Some h → IsFresh h
all_fresh i [] c h get = absurd (cc)
all_fresh i (x ∷ hosts) zero h get = let e : first_host i x ≡ h = cc in subst IsFresh e (refl, refl)
all_fresh i (x ∷ hosts) (suc c) h get = all_fresh i hosts c h get

-- ---- the asking

module _ (i : Inquiry) (a : Asking) (plans : List Plan) (count : ℕ) (in_order : Bool)
    (planned : plans ≡ map (plan_of i.manner i.total) i.hosts) (order : in_order ≡ not (is_at_once i.manner))
    (meta : MetaAfter i.questions i.settings [] a.meta) (size : length i.hosts ≡ length i.questions)
    (courses : a.clock.courses.items ≡ all_planned i.start (not in_order) plans)
    (tasks : a.clock.queue.items ≡ []) (orderly : IsOrderly a.clock)
    (is_in_order : a.clock.in_order ≡ in_order) (empty : AreEmpty count a.unsent.items)
  where
    built : Holds i (map (first_host i) i.hosts) a
    built = record {
      size = length-map i.hosts (first_host i) ∙ size;
      courses = courses ∙ ap (λ b. all_planned i.start (not b) plans) order
          ∙ ap (λ b. all_planned i.start b plans) (not_not (is_at_once i.manner))
          ∙ ap (all_planned i.start (is_at_once i.manner)) planned ∙ planned_courses i i.hosts;
      pool = [];
      meta = meta;
      events = λ c h get. sym (all_fresh i i.hosts c h get).0;
      unsent = λ c h get. ([], ap given (all_fresh i i.hosts c h get).0 ∙ sym (empty.none c));
      done = [];
      queue = λ c h get. ap (tasks_for c) tasks ∙ sym (all_fresh i i.hosts c h get).1;
      orderly = orderly;
      in_order = is_in_order ∙ order;
    }

    -- the first turn is given
    pub started : (new : Asking) → HasTurned i.start a new → a.clock.passed ≡ i.start
        → new.clock.passed ≡ a.clock.passed → AskingAfter i [] new
    started new turned first second = record {
      hosts = after_turns i.manner i.start (map (first_host i) i.hosts);
      after = refl;
      holds = turned i (map (first_host i) i.hosts) built;
      passed = second ∙ first;
    }
