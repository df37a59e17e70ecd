-- A trace that was replayed, and why one is refused.
use Rattle.std.proofs.Common.{◌≡◌, refl, sym, ◌∙◌, ap, subst, ℕ, zero, suc, ◌^◌, ◌<◌, ◌≤◌, arith, Bool, ◌||◌, not, List, [], ◌∷◌, length, Option, Some, None, Result, Ok, Err, IfSome, inl, inr, map, slice_get, slice_index_or}
use Rattle.std.proofs.lemmas.Option.{slice_get-map}
use Rattle.std.specs.Borrow.{Bor}
use Rattle.std.specs.Option.{option_map}
use Rattle.std.specs.Str.{IsUtf8}
use Rattle.zmeta_args.specs.Texts.{texts_of}
use Rattle.zmeta_args.specs.declared.arguments.View.{View}
use Rattle.zmeta_trace.specs.Heads.{HeadTexts, head_in}
use Rattle.zmeta_trace.specs.Replays.{inquiry_by, IsReplayed}
use Rattle.zmeta_trace.specs.declared.replaying.Replayed.{Replayed}
use Rattle.zmeta_world.specs.declared.world.World.{World}
use Rattle.zmeta_world.specs.declared.network.NetworkRun.{NetworkRun}
use Rattle.zmeta_devices.specs.declared.fault.Fault.{Fault}
use Rattle.zmeta_devices.specs.declared.fault.Fault.TheVariants.{Read, Line, Query, Wanted, Syntax, NoQuestion, Memory}
use Rattle.zoom.specs.Limits.{Limits}
use Rattle.zoom.specs.Metas.{MetaLinks}
use Rattle.zoom.specs.Trace.{Trace}
use Rattle.zoom.specs.TraceEntry.{TraceEntry}
use Rattle.zoom.specs.Traces.{IsTrace}
use Rattle.zmeta_commands.specs.declared.finished.Finished.{Finished}
use Rattle.zmeta_commands.specs.declared.replay.Playback.{Playback}
use Rattle.zmeta_commands.specs.Choice.{AddressesResult}
use Rattle.zmeta_commands.specs.Finished.{IsListed, IsOfFile, IsOfTexts}
use Rattle.zmeta_commands.specs.Replay.{HasOddName, HeadNetworkResult, ChosenResult, IsChoice, AreLimitsBy, IsReplayedBy, at_world, ReplayEntriesResult, ReplayTraceResult, TraceFileResult, ReplayFileResult, IsOfTrace, IsOfReplay}
use Rattle.zmeta_commands.specs.Worlds.{IsSearchedFile, SearchedResult, PlanResult}
use Rattle.zmeta_commands.proofs.Planning.{refused_in, unplanned_in}

-- ---- the plan of a head

-- the world file is too large
pub too_large : (h : HeadTexts) → 2 ^ 32 ≤ length h.world → HeadNetworkResult h (Err (Line 2))
too_large h large = (refl, inl large)

-- the world, or what is put to its questions, is refused
pub no_search : (h : HeadTexts) (f : Fault) → SearchedResult h.search h.world (Err f) → IsOfTexts f
    → HeadNetworkResult h (Err (at_world f))
no_search h (Line number) s of = (refl, inr (Line number, refused_in h.search h.world (Line number) s))
no_search h (Query kind at text) s of =
    (refl, inr (Query kind at text, refused_in h.search h.world (Query kind at text) s))
no_search h (Wanted text) s of = (refl, inr (Wanted text, refused_in h.search h.world (Wanted text) s))
no_search h (Syntax text) s of = (refl, inr (Syntax text, refused_in h.search h.world (Syntax text) s))
no_search h Memory s of = tt
no_search h f s of = absurd of

-- a question goes to a target in memory
pub no_plan : (h : HeadTexts) (world : World) (f : Fault) → IsSearchedFile h.search h.world world
    → PlanResult world (Err f) → HeadNetworkResult h (Err (at_world f))
no_plan h world (Line number) is p = (refl, inr (Line number, unplanned_in h.search h.world world (Line number) is p))
no_plan h world Memory is p = tt
no_plan h world f is p = absurd p

pub a_plan : (h : HeadTexts) (world : World) (e : NetworkRun) → IsSearchedFile h.search h.world world
    → PlanResult world (Ok e) → HeadNetworkResult h (Ok e)
a_plan h world e is p = (world, is, p)

-- ---- the chosen names

map_at : {A B : Type 0} (f : A → B) (xs : List A) (at : ℕ) (x : A) → slice_get xs at ≡ Some x
    → slice_get (map f xs) at ≡ Some (f x)
map_at f xs at x stands = slice_get-map f xs at ∙ ap (option_map f) stands

pub no_choice : (only names addresses : List (List ℕ)) (f : Fault) → AddressesResult only names addresses (Err f)
    → ChosenResult only names addresses (Err (at_world f))
no_choice only names addresses (NoQuestion unknown) h = (refl, inl (unknown.now, h))
no_choice only names addresses Memory h = tt
no_choice only names addresses f h = absurd h

-- an index within the list gives an item, whatever the default is
slice_at : {X : Type 0} (xs : List X) (i : ℕ) (d : X) → i < length xs → slice_get xs i ≡ Some (slice_index_or xs i d)
slice_at [] i d lt = absurd (omega arith)
slice_at (x ∷ xs) zero d lt = refl
slice_at (x ∷ xs) (suc i) d lt = slice_at xs i d (omega (arith, lt))

-- a name is not UTF-8
pub odd_name : (only : List (Bor (List ℕ))) (at : ℕ) (d : Bor (List ℕ)) → at < length only
    → (IsUtf8 (slice_index_or only at d).now → ⊥) → HasOddName (texts_of only)
odd_name only at d lt odd = (
  at,
  (slice_index_or only at d).now,
  map_at (λ (text : Bor (List ℕ)). text.now) only at (slice_index_or only at d) (slice_at only at d lt),
  odd,
)

-- no addresses were chosen
pub unchosen : (view : View) (trace : Trace) (h : HeadTexts) (e : NetworkRun) (f : Fault)
    → ChosenResult h.only e.names e.addresses (Err f) → ReplayEntriesResult view trace h e (Err f)
unchosen view trace h e (Line number) is = inl is
unchosen view trace h e Memory is = tt
unchosen view trace h e f is = absurd is

-- ---- the trace

-- all entries were replayed, and what is known was listed
pub network_replayed : (view : View) (trace : Trace) (h : HeadTexts) (e : NetworkRun) (finished : Finished) (cut : Bool)
    (chosen : List (Option (List ℕ))) (replayed : Replayed) (limits : Limits) → IsChoice h e chosen
    → IsReplayed (inquiry_by e.questions e.settings h.begun chosen) trace.entries.items replayed
    → AreLimitsBy h.begun limits
    → IsListed limits [] replayed.notices.items replayed.meta e.names chosen view [] finished
    → cut ≡ trace.is_cut || not replayed.is_over
    → IsReplayedBy view trace h e (record { finished = finished; is_cut = cut })
network_replayed view trace h e finished cut chosen replayed limits picks is by listed ends = record {
  known = picks.0;
  chosen = chosen;
  picks = picks.1;
  replayed = replayed;
  is = is;
  meta = listed.of;
  limits = limits;
  by = by;
  listed = subst (λ (m : MetaLinks). IsListed limits [] replayed.notices.items m e.names chosen view [] finished)
      (sym listed.of) listed;
  cut = ends;
}

pub entries_replayed : (view : View) (trace : Trace) (h : HeadTexts) (rest : List TraceEntry) (e : NetworkRun)
    (result : Result Playback Fault) → head_in trace.entries.items ≡ (Some h, rest) → HeadNetworkResult h (Ok e)
    → ReplayEntriesResult view trace h e result → ReplayTraceResult view trace result
entries_replayed view trace h rest e (Ok r) head from is = (h, e, record { rest = rest; head = head; from = from }, is)
entries_replayed view trace h rest e (Err (Line number)) head from is =
    inr (inr (h, e, record { rest = rest; head = head; from = from }, is))
entries_replayed view trace h rest e (Err Memory) head from is = tt
entries_replayed view trace h rest e (Err f) head from is = absurd is

pub head_unplanned : (view : View) (trace : Trace) (h : HeadTexts) (rest : List TraceEntry) (f : Fault)
    → head_in trace.entries.items ≡ (Some h, rest) → HeadNetworkResult h (Err f)
    → ReplayTraceResult view trace (Err f)
head_unplanned view trace h rest (Line number) head is = inr (inl (h, rest, head, is.0, is.1))
head_unplanned view trace h rest Memory head is = tt
head_unplanned view trace h rest f head is = absurd is

-- ---- the file

in_file : (view : View) (octets : List ℕ) (trace : Trace) (result : Result Playback Fault) → IsTrace octets trace
    → ReplayTraceResult view trace result → ReplayFileResult view octets result
in_file view octets trace (Ok r) read is = (trace, read, is)
in_file view octets trace (Err (Line number)) read is = inr (trace, read, is)
in_file view octets trace (Err Memory) read is = tt
in_file view octets trace (Err f) read is = absurd is

pub file_replayed : (view : View) (file : Option (List ℕ)) (octets : List ℕ) (trace : Trace)
    (result : Result Playback Fault) → IfSome file (λ known. octets ≡ known) → IsTrace octets trace
    → ReplayTraceResult view trace result → IfSome file (λ known. ReplayFileResult view known result)
file_replayed view None octets trace result same read is = tt
file_replayed view (Some known) octets trace result same read is =
    in_file view known trace result (subst (λ (l : List ℕ). IsTrace l trace) same read) is

untraced_in : (view : View) (octets : List ℕ) (f : Fault) → TraceFileResult octets (Err f)
    → ReplayFileResult view octets (Err f)
untraced_in view octets (Line number) h = inl h
untraced_in view octets Memory h = tt
untraced_in view octets f h = absurd h

pub untraced : (view : View) (file : Option (List ℕ)) (octets : List ℕ) (f : Fault)
    → IfSome file (λ known. octets ≡ known) → TraceFileResult octets (Err f)
    → IfSome file (λ known. ReplayFileResult view known (Err f))
untraced view None octets f same h = tt
untraced view (Some known) octets f same h =
    untraced_in view known f (subst (λ (l : List ℕ). TraceFileResult l (Err f)) same h)

pub unread : (view : View) (path : List ℕ) (file : Option (List ℕ)) (f : Fault) → IsOfFile file path f
    → IfSome file (λ known. ReplayFileResult view known (Err f))
unread view path None f of = tt
unread view path (Some known) (Read failed) of = let no = of.1 in absurd cc
unread view path (Some known) Memory of = tt
unread view path (Some known) f of = absurd of

pub of_trace : (path : List ℕ) (f : Fault) → IsOfTrace f → IsOfReplay path f
of_trace path (Line number) h = tt
of_trace path Memory h = tt
of_trace path f h = absurd h

pub of_traced : (octets path : List ℕ) (f : Fault) → TraceFileResult octets (Err f) → IsOfReplay path f
of_traced octets path (Line number) h = tt
of_traced octets path Memory h = tt
of_traced octets path f h = absurd h

pub of_file : (file : Option (List ℕ)) (path : List ℕ) (f : Fault) → IsOfFile file path f → IsOfReplay path f
of_file file path (Read failed) h = h.0
of_file file path Memory h = tt
of_file file path f h = absurd h

-- why the trace of a file is not replayed; what the plan of a head is, or why it has none
pub ruleset file_faults = (untraced, unread, of_trace, of_traced, of_file)

pub ruleset head_plans = (too_large, no_search, no_plan, a_plan)
