-- A trace that was begun, grew, and was ended.
use Rattle.std.proofs.Common.{◌≡◌, refl, sym, ◌∙◌, ap, subst, ℕ, zero, suc, ◌+◌, ◌<◌, arith, Bool, true, false, ◌&&◌, not, List, [], ◌∷◌, ◌++◌, length, take, get_or, slice_index_or, is_some, Option, Some, None, Ok, IfSome, inl, inr, append_assoc, append-nil}
use Rattle.std.proofs.lemmas.List.{take_more}
use Rattle.std.specs.Io.KnownBytes.{Appends}
use Rattle.zmeta_devices.specs.Files.{Files, FileSteps, IsAt, HasMade, IfKnown, IsDraft, IsClosed, IsClosedFront, IsClosedIf, IsBrokenIf}
use Rattle.zmeta_devices.specs.Files.FileStep.{closed}
use Rattle.zmeta_devices.proofs.Filing.{held, made_of}
use Rattle.zmeta_trace.specs.Given.{given_entries}
use Rattle.zmeta_world.specs.Search.{SearchTexts}
use Rattle.zoom.specs.Asking.{first_entries, IsTracedAsk}
use Rattle.zoom.specs.Lines.{trace_of}
use Rattle.zoom.specs.TraceEntry.{TraceEntry}
use Rattle.zoom.specs.Tracer.{Tracer}
use Rattle.zoom.specs.Tracing.{IsTracedOn, IsTracedIf, IsWrittenOut}
use Rattle.zoom_trace.proofs.TracedLines.{none_traced, more_traced}
use Rattle.zmeta_commands.specs.declared.ask.Planned.{Planned}
use Rattle.zmeta_commands.specs.declared.finished.Finished.{Finished}
use Rattle.zmeta_commands.specs.Begun.{IsTraceBegun}
use Rattle.zmeta_commands.specs.Choice.{ChoiceTexts, IsChosen}
use Rattle.zmeta_commands.specs.Traced.{IsNew, IsBegun, HoldsIf, HasLines, HasLogged, CloseLogResult, CloseResult, IsTracedNetwork, IsPlannedOf, IsTracedFile, trace_entries}

-- ---- the beginning

-- no entry was put; and the next one
pub put_none : {W : Type 0} (contents : W → Option (List ℕ)) (t : Tracer W) → IsTracedOn contents [] t t
put_none contents t = none_traced contents t

-- an index within the list gives an item, whatever the default is
pub in_place : {X : Type 0} (xs : List X) (i : ℕ) (d : X) → i < length xs
    → slice_index_or xs i d ≡ get_or xs i (slice_index_or xs i d)
in_place [] i d lt = absurd (omega arith)
in_place (x ∷ xs) zero d lt = refl
in_place (x ∷ xs) (suc i) d lt = in_place xs i d (omega (arith, lt))

pub put_more : {W : Type 0} (contents : W → Option (List ℕ)) (all : List TraceEntry) (i : ℕ) (d : TraceEntry)
    (old mid new : Tracer W) → i < length all → IsTracedOn contents (take i all) old mid
    → IsTracedOn contents (slice_index_or all i d ∷ []) mid new → IsTracedOn contents (take (i + 1) all) old new
put_more contents all i d old mid new lt a b =
    let e : TraceEntry = slice_index_or all i d in
    let same = take_more all i e lt ∙ ap (λ (z : TraceEntry). take i all ++ z ∷ []) (sym (in_place all i d lt)) in
    subst (λ (l : List TraceEntry). IsTracedOn contents l old new) (sym same)
    (more_traced contents (take i all) (e ∷ []) old mid new a b)

-- a trace was begun
pub begun : {W : Type 0} (contents : W → Option (List ℕ)) (steps : FileSteps) (entries : List TraceEntry)
    (fresh t : Tracer W) → IsNew contents steps fresh → IsTracedOn contents entries fresh t
    → IsBegun contents steps entries (Some t)
begun contents steps entries fresh t new traced = (fresh, new, traced)

-- the log of a trace was begun, whatever it is begun for
pub begun_still : {A B : Type 0} (trace : Option (List ℕ)) (old new : Files) (x : A) (y : B)
    → IsTraceBegun trace old new (Ok x) → IsTraceBegun trace old new (Ok y)
begun_still None old new x y h = h
begun_still (Some path) old new x y h = h

-- ---- while the hosts are asked

gained : (steps : FileSteps) (start now : Option (List ℕ)) (front : List ℕ) → IsDraft steps start
    → Appends start now front → HoldsIf steps now front
gained None start now front log more = tt
gained (Some known) start now front log more = held (Some known) start now front log more refl

-- the log holds the lines that were put since it was begun
has_lines : {W : Type 0} (contents : W → Option (List ℕ)) (steps : FileSteps) (entries : List TraceEntry)
    (fresh t : Tracer W) → IsNew contents steps fresh → IsTracedOn contents entries fresh t → t.lines.items ≡ []
    → HasLines contents steps entries t
has_lines contents steps entries fresh t new traced none = record {
  front = traced.written;
  rest = traced.rest;
  cut = subst (λ (l : List ℕ). l ++ trace_of entries ≡ traced.written ++ traced.rest) new.lines traced.cut;
  holds = gained steps (contents fresh.sink) (contents t.sink) traced.written new.log traced.appended;
  all = λ sound. sym (traced.waits sound) ∙ none;
}

has_logged : {W : Type 0} (contents : W → Option (List ℕ)) (steps : FileSteps) (es fs : List TraceEntry)
    (given left : Option (Tracer W)) → IsBegun contents steps es given → IsTracedIf contents fs given left
    → IsWrittenOut left → HasLogged contents steps (es ++ fs) left
has_logged contents steps es fs None None b t w = tt
has_logged contents steps es fs None (Some left) b t w = absurd t
has_logged contents steps es fs (Some given) None b t w = absurd t
has_logged contents steps es fs (Some given) (Some left) b t w =
    has_lines contents steps (es ++ fs) b.0 left b.1 (more_traced contents es fs b.0 given left b.2 t) w

-- the trace that is left has the lines of what was given, and of what was reported
pub traced_network : {W : Type 0} (contents : W → Option (List ℕ)) (steps : FileSteps) (choice : ChoiceTexts)
    (search : SearchTexts) (p : Planned) (r : Finished) (chosen : List (Option (List ℕ))) (given left : Option (Tracer W))
    → IsChosen choice.only p.network.names p.network.addresses chosen
    → IsBegun contents steps (given_entries p.world search choice.only) given
    → IsTracedAsk contents p.network.questions p.network.settings choice.manner choice.limits [] chosen given r.meta left
    → IsTracedNetwork contents steps choice search p r left
traced_network contents steps choice search p r chosen given left picks b asked = record {
  entries = trace_entries choice search p.world asked.start asked.entries;
  are = record {
    chosen = chosen;
    picks = picks;
    start = asked.start;
    rest = asked.entries;
    whole = refl;
    writable = asked.writable;
    asked = asked.asked;
  };
  logs = has_logged contents steps (given_entries p.world search choice.only)
      (first_entries choice.manner choice.limits asked.start ++ asked.entries) given left b asked.traced asked.written;
}

-- the same for the file of the plan
pub traced_file : {W : Type 0} (contents : W → Option (List ℕ)) (steps : FileSteps) (choice : ChoiceTexts)
    (search : SearchTexts) (file : Option (List ℕ)) (p : Planned) (r : Finished) (left : Option (Tracer W))
    → IsPlannedOf search file p → IsTracedNetwork contents steps choice search p r left
    → IsTracedFile contents steps choice search file r left
traced_file contents steps choice search file p r left planned traced = record {
  entries = traced.entries;
  are = (p.world, planned.world, (p.network, planned.network, traced.are));
  logs = traced.logs;
}

-- ---- the end

-- no log was ended
pub none_closed : (folder : Files) (path : List ℕ) (entries : List TraceEntry)
    → CloseResult folder folder path entries false
none_closed folder path entries = inl refl

holds_known : (steps : FileSteps) (contents : Option (List ℕ)) (front : List ℕ) → HoldsIf steps contents front
    → is_some steps ≡ true → contents ≡ Some front
holds_known None contents front holds known = cc
holds_known (Some steps) contents front holds known = holds

module _ {W : Type 0} (contents : W → Option (List ℕ)) (old new : Files) (path : List ℕ) (entries : List TraceEntry)
    (t : Tracer W) (h : HasLines contents old.steps entries t) where
  known : is_some old.steps ≡ true → contents t.sink ≡ Some h.front
  known = holds_known old.steps (contents t.sink) h.front h.holds

  -- the log was ended, and holds all
  whole_closed : t.has_failed ≡ false → IsClosedIf old new path (contents t.sink)
      → CloseResult old new path entries true
  whole_closed sound made =
      let all : trace_of entries ≡ h.front =
      h.cut ∙ ap (λ (l : List ℕ). h.front ++ l) (h.all sound) ∙ append-nil h.front in
      subst (IsClosed old new path) (sym all)
      (made_of old new path h.front (contents t.sink) (closed path) known made.0 made.1)

  -- the log was ended, and holds a front
  front_closed : IsClosedIf old new path (contents t.sink) → CloseResult old new path entries false
  front_closed made = inr (record {
    front = h.front;
    rest = h.rest;
    cut = h.cut;
    closed = made_of old new path h.front (contents t.sink) (closed path) known made.0 made.1;
  })

  -- a front of what the log holds
  part_of : (steps : FileSteps) → old.steps ≡ steps → HoldsIf steps (contents t.sink) h.front → IsAt old new path
      → IfSome (contents t.sink) (λ octets. (front : List ℕ) × (rest : List ℕ) × (octets ≡ front ++ rest)
      × HasMade old new path front (closed path front))
      → IsClosedFront old new path (trace_of entries)
  part_of None is holds at has = record {
    front = h.front;
    rest = h.rest;
    cut = h.cut;
    closed = record {
      at = at;
      has = subst (λ z. IfKnown z (HasMade old new path h.front (closed path h.front))) (sym is) tt;
    };
  }
  part_of (Some steps) is holds at has =
      let made = subst (λ z. IfSome z (λ octets. (front : List ℕ) × (rest : List ℕ) × (octets ≡ front ++ rest)
      × HasMade old new path front (closed path front))) holds has in record {
        front = made.0;
        rest = made.1 ++ h.rest;
        cut = h.cut ∙ ap (λ (l : List ℕ). l ++ h.rest) made.2 ∙ append_assoc made.0 made.1 h.rest;
        closed = record {
          at = at;
          has = subst (λ z. IfKnown z (HasMade old new path made.0 (closed path made.0))) (sym is) made.3;
        };
      }

  -- the log could not be ended
  part_closed : IsBrokenIf old new path (contents t.sink) → CloseResult old new path entries false
  part_closed (inl same) = inl same
  part_closed (inr part) = inr (part_of old.steps refl h.holds part.0 part.1)

  closed_as : (is_closed failed : Bool) → failed ≡ t.has_failed
      → CloseLogResult old new path (contents t.sink) is_closed
      → CloseResult old new path entries (is_closed && not failed)
  closed_as true false is made = whole_closed (sym is) made
  closed_as true true is made = front_closed made
  closed_as false false is made = part_closed made
  closed_as false true is made = part_closed made

-- the log of a tracer was ended, or not: it holds all if it was, unless a call had failed
pub closed_lines : {W : Type 0} (contents : W → Option (List ℕ)) (old new : Files) (path : List ℕ) (t : Tracer W)
    (log : W) (is_closed failed result : Bool) (entries : List TraceEntry) → failed ≡ t.has_failed → log ≡ t.sink
    → CloseLogResult old new path (contents log) is_closed
    → result ≡ is_closed && not failed → HasLines contents old.steps entries t
    → CloseResult old new path entries result
closed_lines contents old new path t log is_closed failed result entries is same made so h =
    subst (CloseResult old new path entries) (sym so) (closed_as contents old new path entries t h is_closed failed is
    (subst (λ z. CloseLogResult old new path (contents z) is_closed) same made))
