-- Once each connection is over, those that were chosen are Closed or Failed, and the others have no events.
use Rattle.std.proofs.Common.{◌≡◌, ℕ, ◌<◌, Bool, true, false, cond, List, [], ◌∷◌, ◌++◌, length, slice_get, option_to_list, ◌==◌, Option, None, Some, refl, sym, subst}
use Rattle.std.proofs.lemmas.Option.{slice_get_within}
use Rattle.zoom_questions.specs.declared.question.Question.{Question}
use Rattle.zoom_pool.specs.History.{events_on}
use Rattle.zoom_pool.specs.Metas.{MetaLinks, MetaAfter}
use Rattle.zoom_clock.specs.declared.course.Course.{Course}
use Rattle.zoom_clock.specs.declared.signal.Ending.{Ending}
use Rattle.zoom_clock.specs.declared.stage.Stage.{Stage}
use Rattle.zoom_clock.specs.declared.stage.Stage.TheVariants.{NotChosen, Resolving, Connecting, Talking, Over}
use Rattle.zoom_clock.specs.Courses.{is_settled}
use Rattle.zoom_clock.proofs.Places.{some_at}
use Rattle.zoom_asking.specs.declared.inquiry.AskedHost.{AskedHost}
use Rattle.zoom_asking.specs.declared.inquiry.Report.{Report}
use Rattle.zoom_asking.specs.declared.inquiry.Report.TheVariants as reports
use Rattle.zoom_asking.specs.Inquiries.{Inquiry, Entry, Event, Reported, Passed, GivenUp, Told, Came, Noted, event_from, is_at_once, limits_of, own, passed_in, signal_of}
use Rattle.zoom_asking.specs.Hosts.{AskedConnection, AskedAfter}
use Rattle.zoom_asking.specs.Asked.{IsReport, AreReports, IsAskedBy}
use Rattle.zoom_asking.specs.Laws.{AskedOn, AskedLaws, AskedEndLaw, HasEndedIf, IsReported, AreReported}
use Rattle.zoom_asking.proofs.Owning.{course_of_signals}
use Rattle.zoom_asking.proofs.Rulings.{IsChosen, chosen_after}

-- ---- what a caller can report tells no condition

report_reported : (report : Report) → IsReported (Noted (signal_of report))
report_reported (reports.Resolved addresses) = tt
report_reported (reports.Connected k) = tt
report_reported (reports.Unreachable k) = tt
report_reported (reports.NoSocket k) = tt
report_reported reports.Taken = tt
report_reported reports.End = tt
report_reported reports.Unreadable = tt
report_reported reports.Unwritable = tt

told_reported : (at c : ℕ) (told : Told) → IsReport (Reported at c told) → IsReported told
told_reported at c (Came piece) is = tt
told_reported at c (Noted what) is = subst (λ w. IsReported (Noted w)) (sym is.1) (report_reported is.0)

own_reported : (c start : ℕ) (history : List Entry) → AreReports history → AreReported (own c start history)
own_reported c start [] are = tt
own_reported c start (Reported at d told ∷ xs) are =
    by (d == c) (told_reported at d told are.0) (own_reported c start xs are.1)
  where
    by : (b : Bool) → IsReported told → AreReported (own c start xs)
        → AreReported (option_to_list (cond b (Some (event_from (passed_in start xs) at told)) None) ++ own c start xs)
    by true here later = (here, later)
    by false here later = later
own_reported c start (Passed at ∷ xs) are = (tt, own_reported c start xs are.1)
own_reported c start (GivenUp at ∷ xs) are = (tt, own_reported c start xs are.1)

-- ---- a connection that is chosen, and settled, is over

chosen_over : (stage : Stage) → IsChosen stage → is_settled stage ≡ true → (ending : Ending) × (stage ≡ Over ending)
chosen_over NotChosen chosen settled = absurd chosen
chosen_over Resolving chosen settled = absurd (cc)
chosen_over (Connecting a) chosen settled = absurd (cc)
chosen_over (Talking t) chosen settled = absurd (cc)
chosen_over (Over ending) chosen settled = (ending, refl)

host_chosen : (i : Inquiry) (host : AskedHost) (question : Question) (es : List Event) (h : AskedConnection)
    → AskedAfter i (Some host) question es h → IsChosen h.course.stage
host_chosen i host question es h after =
    let f = course_of_signals i (Some host) question es h after in
    subst (λ (p : Course). IsChosen p.stage) (sym f.2)
    (chosen_after (limits_of i.manner i.total (Some host)) i.start (is_at_once i.manner) f.0)

-- ---- the law

module _ (laws : AskedLaws) (i : Inquiry) (history : List Entry) (meta : MetaLinks) (a : IsAskedBy i history meta)
    (c : ℕ) (asks : AskedOn i c) (h : AskedConnection) (get : slice_get a.after.hosts c ≡ Some h)
  where
    ended_if : (host : Option AskedHost) → asks.host ≡ host → HasEndedIf host i.settings h.events
    ended_if None is = (laws.not_chosen i history a.after.hosts c h asks is a.after.after get).0
    ended_if (Some host) is =
        let t = laws.turns i history a.after.hosts c h asks a.after.after get in
        let after = subst (λ o. AskedAfter i o asks.question t.0 h) is t.1 in
        let over = chosen_over h.course.stage (host_chosen i host asks.question t.0 h after) (a.over c h get) in
        laws.over i history a.after.hosts c h over.0 asks a.after.after (own_reported c i.start history a.reports) get
        over.1

    ended_here : HasEndedIf asks.host i.settings (events_on c a.after.holds.pool)
    ended_here = subst (HasEndedIf asks.host i.settings) (sym (a.after.holds.events c h get)) (ended_if asks.host refl)

pub asked_end_of : AskedLaws → AskedEndLaw
asked_end_of laws i history meta a = (
  a.after.holds.pool,
  subst (MetaAfter i.questions i.settings a.after.holds.pool) (sym a.known) a.after.holds.meta,
  λ c asks.
      let lt : c < length a.after.hosts =
      subst (λ n. c < n) (sym a.after.holds.size) (slice_get_within i.questions c asks.question asks.has_question) in
      let h = some_at a.after.hosts c lt in
      ended_here laws i history meta a c asks h.0 h.1,
)
