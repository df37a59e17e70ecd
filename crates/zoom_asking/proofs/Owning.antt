-- At once, what became of a connection is a function of what was told of it.
use Rattle.std.proofs.Common.{◌≡◌, inl, inr, ℕ, ◌<◌, true, List, [], ◌∷◌, ◌++◌, map, length, slice_get, get_or, Option, None, Some, refl, sym, ap, subst, ◌∙◌, true≢false}
use Rattle.std.specs.Prelude.{is_some, option_to_list, option_map}
use Rattle.std.proofs.lemmas.Option.{same_Some, slice_get-map, slice_get-get_or, slice_get_within}
use Rattle.zoom_questions.specs.declared.question.Question.{Question}
use Rattle.zoom_pool.specs.Transcripts as pool
use Rattle.zoom_clock.specs.declared.signal.Signal.{Signal}
use Rattle.zoom_clock.specs.declared.signal.Signal.TheVariants as signals
use Rattle.zoom_clock.specs.declared.stage.Stage.{Stage}
use Rattle.zoom_clock.specs.declared.stage.Stage.TheVariants.{NotChosen, Resolving, Connecting, Talking, Over}
use Rattle.zoom_clock.specs.Courses as clock
use Rattle.zoom_clock.specs.Courses.{course_after, step}
use Rattle.zoom_asking.specs.declared.inquiry.AskedHost.{AskedHost}
use Rattle.zoom_asking.specs.declared.inquiry.Manner.{Manner}
use Rattle.zoom_asking.specs.declared.inquiry.Manner.TheVariants as manners
use Rattle.zoom_asking.specs.Inquiries.{Inquiry, Event, Told, Came, Noted, is_at_once, limits_of, own, own_event, passed_in}
use Rattle.zoom_asking.specs.Hosts.{AskedConnection, AskedAfter, IsNoted, IsFed, IsTold, first_host}
use Rattle.zoom_asking.specs.Askings.{IsToldIf, after_turns, time_in}
use Rattle.zoom_asking.specs.Laws.{OwnLaw, CourseLaw, AreSignals, IsSignalOf, IsSilent}

-- ---- each connection has a history of its own

-- at once, no turn is given
no_turns : (m : Manner) (at : ℕ) (hosts : List AskedConnection) → is_at_once m ≡ true → after_turns m at hosts ≡ hosts
no_turns manners.AtOnce at hosts once = refl
no_turns manners.InOrder at hosts once = absurd (true≢false (sym once))

-- what is told of a connection, if anything, is added to its history
pub told_then : (i : Inquiry) (host : Option AskedHost) (question : Question) (o : Option Event) (es : List Event)
    (old new : AskedConnection) → AskedAfter i host question es old → IsToldIf i question o old new
    → AskedAfter i host question (option_to_list o ++ es) new
told_then i host question None es old new after told = subst (AskedAfter i host question es) (sym told) after
told_then i host question (Some e) es old new after told = (old, after, told)

-- two lists that are as long have elements at the same places
pub beside : (xs ys : List AskedConnection) (c : ℕ) (y : AskedConnection) → length ys ≡ length xs
    → slice_get ys c ≡ Some y
    → slice_get xs c ≡ Some (get_or xs c y)
beside xs ys c y size at = slice_get-get_or xs c y (subst (λ n. c < n) size (slice_get_within ys c y at))

pub own_of : OwnLaw
own_of i [] hosts c h asks once after at =
    same_Some h (first_host i asks.host) (sym at
    ∙ ap (λ l. slice_get l c) (after ∙ no_turns i.manner i.start (map (first_host i) i.hosts) once)
    ∙ slice_get-map (first_host i) i.hosts c ∙ ap (λ o. option_map (first_host i) o) asks.has_host)
own_of i (x ∷ xs) hosts c h asks once after at =
    let passed = passed_in i.start xs in
    let same = after.4 ∙ no_turns i.manner (time_in passed x) after.1 once in
    let here : slice_get after.1 c ≡ Some h = ap (λ l. slice_get l c) (sym same) ∙ at in
    let was = get_or after.0 c h in
    let there : slice_get after.0 c ≡ Some was = beside after.0 after.1 c h after.3.size here in
    told_then i asks.host asks.question (own_event c passed x) (own c i.start xs) was h
    (own_of i xs after.0 c was asks once after.2 there)
    (after.3.each c asks.question was h asks.has_question there here)

-- ---- the course of a connection is that of its signals

-- silence tells the clock nothing
unsaid : (e : Event) (es : List Event) (xs : List clock.Event) → IsSilent e → AreSignals es xs → AreSignals (e ∷ es) xs
unsaid e es [] silent are = (silent, are)
unsaid e es (x ∷ xs) silent are = inr (silent, are)

-- the course of a connection after these events, by the signals that the clock had
abbrev Follows : Inquiry → Option AskedHost → List Event → AskedConnection → Type 0
Follows i host es h =
    (xs : List clock.Event) × AreSignals es xs
    × (h.course ≡ course_after (limits_of i.manner i.total host) (is_some host) i.start (is_at_once i.manner) xs)

-- a signal that was noted is one step of the clock
noted_then : (i : Inquiry) (host : Option AskedHost) (question : Question) (e : Event) (es : List Event) (what : Signal)
    (events : List pool.Event) (old new : AskedConnection) → Follows i host es old → IsSignalOf e.told what
    → IsNoted i.settings question e.at what events old new → Follows i host (e ∷ es) new
noted_then i host question e es what events old new f is noted =
    (clock.event e.at what ∷ f.0, inl ((refl, is), f.1), noted.course ∙ ap (step (clock.event e.at what)) f.2)

-- nothing became of it
unchanged : (i : Inquiry) (host : Option AskedHost) (e : Event) (es : List Event) (old new : AskedConnection)
    → Follows i host es old → IsSilent e → new ≡ old → Follows i host (e ∷ es) new
unchanged i host e es old new f silent same =
    (f.0, unsaid e es f.0 silent f.1, ap (λ (h : AskedConnection). h.course) same ∙ f.2)

fed_then : (i : Inquiry) (host : Option AskedHost) (question : Question) (at : ℕ) (piece : List ℕ) (es : List Event)
    (stage : Stage) (old new : AskedConnection) → Follows i host es old
    → IsFed i.settings question at piece stage old new
    → Follows i host (record { at = at; told = Came piece } ∷ es) new
fed_then i host question at piece es (Talking t) old new f heard =
    noted_then i host question (record { at = at; told = Came piece }) es (signals.Octets heard.condition) heard.heard
    old new f (heard.condition, refl) heard.noted
fed_then i host question at piece es NotChosen old new f same =
    unchanged i host (record { at = at; told = Came piece }) es old new f tt same
fed_then i host question at piece es Resolving old new f same =
    unchanged i host (record { at = at; told = Came piece }) es old new f tt same
fed_then i host question at piece es (Connecting a) old new f same =
    unchanged i host (record { at = at; told = Came piece }) es old new f tt same
fed_then i host question at piece es (Over ending) old new f same =
    unchanged i host (record { at = at; told = Came piece }) es old new f tt same

told_follows : (i : Inquiry) (host : Option AskedHost) (question : Question) (at : ℕ) (told : Told) (es : List Event)
    (old new : AskedConnection) → Follows i host es old → IsTold i.settings question at told old new
    → Follows i host (record { at = at; told = told } ∷ es) new
told_follows i host question at (Came piece) es old new f is =
    fed_then i host question at piece es old.course.stage old new f is
told_follows i host question at (Noted what) es old new f is =
    noted_then i host question (record { at = at; told = Noted what }) es what old.events old new f refl is

pub course_of_signals : CourseLaw
course_of_signals i host question [] h after = ([], tt, ap (λ (z : AskedConnection). z.course) after)
course_of_signals i host question (e ∷ es) h after =
    told_follows i host question e.at e.told es after.0 h
    (course_of_signals i host question es after.0 after.1) after.2
