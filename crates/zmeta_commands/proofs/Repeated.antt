-- A trace that an ask wrote is replayed with the same.
use Rattle.std.proofs.Common.{◌≡◌, refl, sym, ◌∙◌, ap, subst, ℕ, zero, suc, ◌+◌, ◌<◌, ◌^◌, ◌-◌, ◌/◌, min, arith, Bool, true, false, ◌||◌, not, List, [], ◌∷◌, ◌++◌, length, map, slice_get, get_or, Option, Some, None, option_to_list, append_assoc, length-append}
use Rattle.std.specs.declared.time.Duration.{Duration}
use Rattle.std.specs.Duration.{as_nanos}
use Rattle.std.specs.Option.{option_map, unwrap_or}
use Rattle.std.proofs.lemmas.List.{ext_get_or, length-map}
use Rattle.std.proofs.lemmas.Option.{same_Some, slice_get-get_or, unwrap_or-slice_get}
use Rattle.zknow_stops.specs.declared.detail.Detail.TheVariants as details
use Rattle.zknow_stops.specs.declared.stop.Stop.{Stop}
use Rattle.zmeta_args.specs.declared.arguments.View.{View}
use Rattle.zmeta_trace.specs.declared.head.Begun.{Begun}
use Rattle.zmeta_trace.specs.declared.replaying.Replayed.{Replayed}
use Rattle.zmeta_trace.specs.Given.{search_entries, name_entries, given_entries, begun_entries, head_entries, OneHeadLaw}
use Rattle.zmeta_trace.specs.Heads.{HeadTexts, head_in}
use Rattle.zmeta_trace.specs.Known.{IsSameKnown, KnownLaw}
use Rattle.zmeta_trace.specs.Replays.{inquiry_by, IsReplayed}
use Rattle.zmeta_world.specs.Plans.{IsPlanOf, PlanLaw}
use Rattle.zmeta_world.specs.Search.{SearchTexts}
use Rattle.zmeta_world.specs.declared.network.NetworkRun.{NetworkRun}
use Rattle.zoom.specs.Asked.{IsAskedBy}
use Rattle.zoom.specs.Asking.{nanos, asked_host, total_of, inquiry_of, first_entries}
use Rattle.zoom.specs.Inquiries.{Inquiry, Entry}
use Rattle.zoom.specs.Limits.{Limits}
use Rattle.zoom.specs.Lines.{trace_of, AreWritable}
use Rattle.zoom.specs.Metas.{MetaLinks}
use Rattle.zoom.specs.Notice.{Notice}
use Rattle.zoom.specs.Notice.TheVariants as notices
use Rattle.zoom.specs.Notices.{AreNotices, noticed_after}
use Rattle.zoom.specs.PoolSteps.{IsStateAt}
use Rattle.zoom.specs.Reason.{Reason}
use Rattle.zoom.specs.Reason.TheVariants as reasons
use Rattle.zoom.specs.Reasons.{reason_name}
use Rattle.zoom.specs.Replays.{reported_at, history_with, history_after}
use Rattle.zoom.specs.State.{State}
use Rattle.zoom.specs.State.TheVariants as states
use Rattle.zoom.specs.Trace.{Trace}
use Rattle.zoom.specs.TraceEntry.{TraceEntry}
use Rattle.zoom.specs.TraceLaws.{WholeLaw}
use Rattle.zoom.specs.Traces.{IsTrace}
use Rattle.zoom_trace.proofs.Recorded.{writable_both}
use Rattle.zmeta_commands.specs.declared.finished.Finished.{Finished}
use Rattle.zmeta_commands.specs.declared.replay.Playback.{Playback}
use Rattle.zmeta_commands.specs.Ask.{IsNetworkFile, IsAskedOf}
use Rattle.zmeta_commands.specs.Choice.{ChoiceTexts, address_if, IsChosen}
use Rattle.zmeta_commands.specs.Finished.{asker, IsListed}
use Rattle.zmeta_commands.specs.Replay.{IsSearchOf, IsReplayedBy, AreLimitsBy, IsFileReplayed}
use Rattle.zmeta_commands.specs.Replayed.{IsSameFinished, AreShort, AreNoticed, HasTraced, SameFinishedLaw}
use Rattle.zmeta_commands.specs.Stops.{whole_seconds, unreached_detail, unread_detail, frame_detail, detail_of, IsStopOf, notice_at, AreStopsOf, none, more, AreStops}
use Rattle.zmeta_commands.specs.Traced.{IsTraceBy}
use Rattle.zmeta_offline.specs.SameViews.{IsSameStopIf, AreSameStops, SameViewLaw}
use Rattle.zmeta_offline.specs.Views.{printed}

-- the laws that it rests on
pub record Laws : Type 0 where
  pub whole : WholeLaw
  pub head : OneHeadLaw
  pub plan : PlanLaw
  pub known : KnownLaw
  pub view : SameViewLaw

-- ---- what the entries of a head tell

-- entries that tell no report
abbrev AreQuiet : List TraceEntry → Type 0
AreQuiet [] = Unit {0}
AreQuiet (e ∷ es) = (reported_at e.at e.what ≡ None) × AreQuiet es

quiet_both : (xs ys : List TraceEntry) → AreQuiet xs → AreQuiet ys → AreQuiet (xs ++ ys)
quiet_both [] ys p q = q
quiet_both (x ∷ xs) ys p q = (p.0, quiet_both xs ys p.1 q)

quiet_text : (f : List ℕ → TraceEntry) → ((x : List ℕ) → reported_at (f x).at (f x).what ≡ None)
    → (text : Option (List ℕ)) → AreQuiet (option_to_list (option_map f text))
quiet_text f quiet None = tt
quiet_text f quiet (Some text) = (quiet text, tt)

quiet_names : (only : List (List ℕ)) → AreQuiet (name_entries only)
quiet_names [] = tt
quiet_names (name ∷ only) = (refl, quiet_names only)

quiet_search : (s : SearchTexts) → AreQuiet (search_entries s)
quiet_search s =
    quiet_both _ _ (quiet_text _ (λ x. refl) s.query)
    (quiet_both _ _ (quiet_text _ (λ x. refl) s.records)
    (quiet_both _ _ (quiet_text _ (λ x. refl) s.elements) (quiet_text _ (λ x. refl) s.syntax)))

quiet_given : (file : List ℕ) (s : SearchTexts) (only : List (List ℕ)) → AreQuiet (given_entries file s only)
quiet_given file s only =
    (refl, (refl, quiet_both (search_entries s) (name_entries only) (quiet_search s) (quiet_names only)))

quiet_begun : (b : Begun) → AreQuiet (begun_entries b)
quiet_begun b = by b.total
  where
    by : (total : Option ℕ) → AreQuiet (begun_entries (record b { total = total }))
    by None = (refl, (refl, (refl, tt)))
    by (Some n) = (refl, (refl, (refl, (refl, tt))))

quiet_tells : (es rest : List TraceEntry) (history : List Entry) → AreQuiet es
    → history_after (es ++ rest) history ≡ history_after rest history
quiet_tells [] rest history q = refl
quiet_tells (e ∷ es) rest history q =
    ap (λ (o : Option Entry). history_after (es ++ rest) (option_to_list o ++ history)) q.0
    ∙ quiet_tells es rest history q.1

-- ---- the chosen questions

pub chosen_one : (only names addresses : List (List ℕ)) (c d : List (Option (List ℕ)))
    → length names ≡ length addresses → IsChosen only names addresses c → IsChosen only names addresses d → c ≡ d
chosen_one only names addresses c d equal a b =
    ext_get_or None c d (a.size ∙ sym b.size) at
  where
    at : (i : ℕ) → i < length c → get_or c i None ≡ get_or d i None
    at i lt =
        let name = get_or names i [] in
        let address = get_or addresses i [] in
        let named = slice_get-get_or names i [] (omega (arith, lt, a.size, equal)) in
        let there = slice_get-get_or addresses i [] (omega (arith, lt, a.size)) in
        let first = a.each i name address lt named there in
        let second = b.each i name address (omega (arith, lt, a.size, b.size)) named there in
        same_Some (get_or c i None) (get_or d i None)
        (sym (slice_get-get_or c i None lt) ∙ first ∙ sym second
        ∙ slice_get-get_or d i None (omega (arith, lt, a.size, b.size)))

-- ---- why connections stopped

-- of a host the same was noticed, and it was waited for as long
record IsSameWait (one other : Limits) (notice again : Notice) : Type 0 where
  pub connect : whole_seconds one.connect ≡ whole_seconds other.connect
  pub patience : whole_seconds one.patience ≡ whole_seconds other.patience
  pub noted : notice ≡ again

same_unreached : (one other : Limits) (n : Notice) → whole_seconds one.connect ≡ whole_seconds other.connect
    → unreached_detail one n ≡ unreached_detail other n
same_unreached one other notices.Nothing e = ap details.NoAnswer e
same_unreached one other notices.NoPort e = refl
same_unreached one other notices.NoName e = refl
same_unreached one other notices.NoFamily e = refl
same_unreached one other notices.Refused e = refl
same_unreached one other notices.NoRoute e = refl
same_unreached one other notices.Ended e = ap details.NoAnswer e
same_unreached one other notices.Reset e = ap details.NoAnswer e

same_unread : (one other : Limits) (n : Notice) → whole_seconds one.patience ≡ whole_seconds other.patience
    → unread_detail one n ≡ unread_detail other n
same_unread one other notices.Nothing e = ap details.Silent e
same_unread one other notices.NoPort e = ap details.Silent e
same_unread one other notices.NoName e = ap details.Silent e
same_unread one other notices.NoFamily e = ap details.Silent e
same_unread one other notices.Refused e = ap details.Silent e
same_unread one other notices.NoRoute e = ap details.Silent e
same_unread one other notices.Ended e = refl
same_unread one other notices.Reset e = refl

same_detail : (one other : Limits) (n m : Notice) (reason : Reason) → IsSameWait one other n m
    → detail_of one n reason ≡ detail_of other m reason
same_detail one other n m (reasons.Frame kind at) w = refl
same_detail one other n m (reasons.Decode error) w = refl
same_detail one other n m (reasons.Refused refused) w = refl
same_detail one other n m reasons.Ended w = refl
same_detail one other n m reasons.Connect w =
    same_unreached one other n w.connect ∙ ap (unreached_detail other) w.noted
same_detail one other n m reasons.Read w = same_unread one other n w.patience ∙ ap (unread_detail other) w.noted
same_detail one other n m reasons.Write w = refl
same_detail one other n m reasons.Turns w = refl
same_detail one other n m reasons.Memory w = refl

no_stop : {x y : Option Stop} → x ≡ None → y ≡ None → IsSameStopIf x y
no_stop {x = None} {y = None} p q = tt
no_stop {x = Some s} {y = y} p q = absurd cc
no_stop {x = None} {y = Some s} p q = absurd cc

same_stop : (one other : Limits) (n m : Notice) (state : State) (x y : Option Stop) → IsSameWait one other n m
    → IsStopOf one n state x → IsStopOf other m state y → IsSameStopIf x y
same_stop one other n m (states.Failed reason) None y w a b = absurd a
same_stop one other n m (states.Failed reason) (Some s) None w a b = absurd b
same_stop one other n m (states.Failed reason) (Some s) (Some t) w a b = record {
  reason = a.0 ∙ sym b.0;
  detail = a.1 ∙ same_detail one other n m reason w ∙ sym b.1;
}
same_stop one other n m states.Fresh x y w a b = no_stop a b
same_stop one other n m states.Initialising x y w a b = no_stop a b
same_stop one other n m (states.Ready v3 concurrent named) x y w a b = no_stop a b
same_stop one other n m states.Closing x y w a b = no_stop a b
same_stop one other n m states.Closed x y w a b = no_stop a b

same_last : (xs ys : List (Option Stop)) (x y : Option Stop) → AreSameStops xs ys → IsSameStopIf x y
    → AreSameStops (xs ++ x ∷ []) (ys ++ y ∷ [])
same_last [] [] x y a b = (b, tt)
same_last [] (z ∷ ys) x y a b = absurd a
same_last (z ∷ xs) [] x y a b = absurd a
same_last (u ∷ xs) (v ∷ ys) x y a b = (a.0, same_last xs ys x y a.1 b)

module _ (one other : Limits) (n m : List Notice) (meta again : MetaLinks) (known : IsSameKnown meta again) where
  same_stops : (xs ys : List (Option Stop)) → AreStopsOf one [] n meta xs → AreStopsOf other [] m again ys
      → length xs ≡ length ys
      → ((c : ℕ) → c < length xs → IsSameWait one other (notice_at n c) (notice_at m c)) → AreSameStops xs ys
  same_stops xs ys none none e wait = tt
  same_stops xs ys none (more {stops = zs} t y b state is) e wait =
      absurd (omega (arith, e, length-append zs (y ∷ [])))
  same_stops xs ys (more {stops = zs} s x a state is) none e wait =
      absurd (omega (arith, e, length-append zs (x ∷ [])))
  same_stops xs ys (more {stops = us} s x a first is) (more {stops = vs} t y b second so) e wait =
      let long : length (us ++ x ∷ []) ≡ length us + 1 = length-append us (x ∷ []) in
      let size : length us ≡ length vs = omega (arith, e, long, length-append vs (y ∷ [])) in
      let before = same_stops us vs a b size (λ c lt. wait c (omega (arith, lt, long))) in
      let same : s ≡ t = known.states (length us) s t first
      (subst (λ (c : ℕ). IsStateAt c again.pool t) (sym size) second) in
      let last : IsStopOf other (notice_at m (length us)) s y =
      subst (λ (c : ℕ). IsStopOf other (notice_at m c) s y) (sym size)
      (subst (λ (state : State). IsStopOf other (notice_at m (length vs)) state y) (sym same) so) in
      same_last us vs x y before (same_stop one other (notice_at n (length us)) (notice_at m (length us)) s x y
      (wait (length us) (omega (arith, long))) is last)

-- ---- one plan

plan_of : {search : SearchTexts} {file : List ℕ} {e : NetworkRun} → IsNetworkFile search file e
    → IsPlanOf asker search file e
plan_of f = record { said = f.1.0; put = f.0; world = f.1.1; searched = f.1.2; plan = f.2 }

short_nanos : (span : Duration) → as_nanos span < 2 ^ 64 → nanos span ≡ as_nanos span
short_nanos span lt = omega (arith, lt)

-- the head of a trace
abbrev begun_by : ChoiceTexts → ℕ → Begun
begun_by choice start = record {
  start = start;
  manner = choice.manner;
  connect = nanos choice.limits.connect;
  patience = nanos choice.limits.patience;
  total = total_of choice.limits;
}

abbrev head_by : ChoiceTexts → SearchTexts → List ℕ → ℕ → HeadTexts
head_by choice search file start =
    record { world = file; search = search; only = choice.only; begun = begun_by choice start }

module _ (l : Laws) (choice : ChoiceTexts) (search : SearchTexts) (view : View) (file : List ℕ) (r : Finished)
    (entries : List TraceEntry) (trace : Trace) (p : Playback) where
  -- the same plan, and the same head
  core : (e : NetworkRun) (by : IsTraceBy choice search file e r entries) → IsNetworkFile search file e
      → IsAskedOf choice [] view [] e r → AreNoticed choice.limits (length e.questions) r entries
      → AreShort choice.limits
      → IsReplayedBy view trace (head_by choice search file by.start) e p → trace.entries.items ≡ entries
      → trace.is_cut ≡ false → IsSameFinished r p.finished × (p.is_cut ≡ false)
  core e by from of told short again items whole =
      let run = from.2 in
      let count : length e.names ≡ length e.addresses =
      ap length run.names ∙ length-map (from.0).questions _ ∙ sym (length-map (from.0).questions _)
      ∙ ap length (sym run.questions) ∙ sym run.equal in
      let first : again.chosen ≡ by.chosen =
      chosen_one choice.only e.names e.addresses again.chosen by.chosen count again.picks by.picks in
      let second : of.chosen ≡ again.chosen =
      chosen_one choice.only e.names e.addresses of.chosen again.chosen count of.picks again.picks in
      let i : Inquiry = inquiry_by e.questions e.settings (begun_by choice by.start) by.chosen in
      let replayed : IsReplayed i entries again.replayed =
      subst (λ (es : List TraceEntry). IsReplayed i es again.replayed) items
      (subst (λ (c : List (Option (List ℕ))).
      IsReplayed (inquiry_by e.questions e.settings (begun_by choice by.start) c) trace.entries.items again.replayed)
      first again.is) in
      let head = head_entries (head_by choice search file by.start) in
      let given = given_entries file search choice.only in
      let begun = begun_entries (begun_by choice by.start) in
      let quiet = quiet_both given begun (quiet_given file search choice.only)
      (quiet_begun (begun_by choice by.start)) in
      let history : history_after entries [] ≡ history_after by.rest [] =
      ap (λ (es : List TraceEntry). history_after es []) (by.whole ∙ sym (append_assoc given begun by.rest))
      ∙ quiet_tells head by.rest [] quiet in
      let equal : length i.hosts ≡ length i.questions =
      length-map by.chosen _ ∙ by.picks.size ∙ run.equal in
      let so = l.known i by.rest entries r.meta again.replayed equal history by.asked replayed in
      let known : IsSameKnown r.meta p.finished.meta = subst (IsSameKnown r.meta) (sym again.meta) so.0 in
      let size : length r.meta.pool.connections ≡ length e.questions = so.0.size ∙ replayed.size in
      let stopped = told.stopped in
      let stops = again.listed.stopped in
      let wait : (c : ℕ) → c < length r.stops.items
      → IsSameWait choice.limits again.limits (notice_at told.noticed c)
      (notice_at again.replayed.notices.items c) = λ c lt. record {
        connect = ap (λ (n : ℕ). n / 1000000000)
            (sym (short_nanos choice.limits.connect short.connect) ∙ sym again.by.connect);
        patience = ap (λ (n : ℕ). n / 1000000000)
            (sym (short_nanos choice.limits.patience short.patience) ∙ sym again.by.patience);
        noted = unwrap_or-slice_get told.noticed c notices.Nothing
            ∙ told.tells.each c (omega (arith, lt, stopped.size, size))
            ∙ sym (replayed.noticed.each c (omega (arith, lt, stopped.size, size)))
            ∙ sym (unwrap_or-slice_get again.replayed.notices.items c notices.Nothing);
      } in
      let stop : AreSameStops r.stops.items p.finished.stops.items =
      same_stops choice.limits again.limits told.noticed again.replayed.notices.items r.meta p.finished.meta known
      r.stops.items p.finished.stops.items stopped.each stops.each
      (stopped.size ∙ known.size ∙ sym stops.size) wait in (
        record {
          names = of.put.listed.named ∙ sym again.listed.named;
          addresses = of.put.listed.at ∙ second ∙ sym again.listed.at;
          known = known;
          stops = stop;
          list = of.put.listed.list
              ∙ l.view e.names view [] r.stops.items p.finished.stops.items r.meta.pool.knowledge stop
              ∙ ap (printed e.names view [] p.finished.stops.items) known.facts ∙ sym again.listed.list;
        },
        again.cut ∙ ap (λ (b : Bool). b || not again.replayed.is_over) whole
            ∙ ap (λ (b : Bool). not b) so.1,
      )

  pub same_by : HasTraced choice search view file r entries → IsTrace (trace_of entries) trace
      → (h : HeadTexts) (g : NetworkRun) → IsSearchOf trace h g → IsReplayedBy view trace h g p
      → IsSameFinished r p.finished × (p.is_cut ≡ false)
  same_by t is h g from again =
      let e = t.traced.0 in
      let by = t.traced.2 in
      let given = given_entries file search choice.only in
      let begun = begun_entries (begun_by choice by.start) in
      let writable : AreWritable entries = subst AreWritable (sym by.whole)
      (writable_both given (begun ++ by.rest) t.octets by.writable) in
      let read = l.whole entries trace writable is in
      let head = head_by choice search file by.start in
      let items : trace.entries.items ≡ head_entries head ++ by.rest =
      read.0 ∙ by.whole ∙ sym (append_assoc given begun by.rest) in
      let limited = ap (option_map nanos) t.short.limited in
      let same : h ≡ head = l.head head h (nanos t.short.total) by.rest from.rest limited
      (sym (ap head_in items) ∙ from.head) in
      let plan : IsNetworkFile search file g =
      subst (λ (k : HeadTexts). IsNetworkFile k.search k.world g) same from.from in
      let one : g ≡ e = l.plan asker search file g e (plan_of plan) (plan_of t.traced.1) in
      let two : t.asked.0 ≡ e = l.plan asker search file t.asked.0 e (plan_of t.asked.1) (plan_of t.traced.1) in
      core e by t.traced.1 (subst (λ (z : NetworkRun). IsAskedOf choice [] view [] z r) two t.asked.2) t.noticed t.short
      (subst (λ (z : NetworkRun). IsReplayedBy view trace head z p) one
      (subst (λ (k : HeadTexts). IsReplayedBy view trace k g p) same again)) read.0 read.1

pub same : Laws → SameFinishedLaw
same l choice search view file r entries p t f =
    same_by l choice search view file r entries f.0 p t f.1 f.2.0 f.2.1 f.2.2 f.2.3
