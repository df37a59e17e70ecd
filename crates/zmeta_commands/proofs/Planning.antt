-- The plan of a world file, and what came of asking its hosts.
use Rattle.std.proofs.Common.{◌≡◌, subst, ℕ, List, [], Option, Some, None, Result, Ok, Err, IfSome, inl, inr}
use Rattle.zmeta_args.specs.declared.arguments.View.{View}
use Rattle.zmeta_world.specs.Search.{SearchTexts}
use Rattle.zmeta_world.specs.declared.world.World.{World}
use Rattle.zmeta_world.specs.declared.network.NetworkRun.{NetworkRun}
use Rattle.zmeta_devices.specs.declared.fault.Fault.{Fault}
use Rattle.zmeta_devices.specs.declared.fault.Fault.TheVariants.{Read, Write, Line, Query, Wanted, Syntax, NoQuestion, Memory}
use Rattle.zmeta_commands.specs.declared.finished.Finished.{Finished}
use Rattle.zmeta_commands.specs.declared.ask.Planned.{Planned}
use Rattle.zmeta_commands.specs.Ask.{IsNetworkFile, ReadNetworkResult, AskNetworkResult, AskFileResult, IsOfAsking}
use Rattle.zmeta_commands.specs.Begun.{IsTraceFault}
use Rattle.zmeta_commands.specs.Choice.{ChoiceTexts, AddressesResult}
use Rattle.zoom.specs.HostWaits.{HostWaits}
use Rattle.zmeta_commands.specs.Finished.{IsOfFile, IsOfTexts, IsOfSearchedWorld}
use Rattle.zmeta_commands.specs.Traced.{IsPlannedOf, PlannedResult}
use Rattle.zmeta_commands.specs.Worlds.{IsSearchedFile, SearchedResult, PlanResult}

-- the file cannot be read
pub unread : (search : SearchTexts) (path : List ℕ) (file : Option (List ℕ)) (f : Fault) → IsOfFile file path f
    → PlannedResult search file (Err f)
unread search path None f of = tt
unread search path (Some octets) (Read failed) of = let no = of.1 in absurd cc
unread search path (Some octets) Memory of = tt
unread search path (Some octets) f of = absurd of

-- the world, or the search, is refused
pub refused_in : (search : SearchTexts) (octets : List ℕ) (f : Fault) → SearchedResult search octets (Err f)
    → ReadNetworkResult search octets (Err f)
refused_in search octets (Line number) h = inl h
refused_in search octets Memory h = tt
refused_in search octets (Query kind at text) h = h
refused_in search octets (Wanted text) h = h
refused_in search octets (Syntax text) h = h
refused_in search octets f h = absurd h

pub refused : (search : SearchTexts) (file : Option (List ℕ)) (octets : List ℕ) (f : Fault)
    → IfSome file (λ known. octets ≡ known) → SearchedResult search octets (Err f) → PlannedResult search file (Err f)
refused search None octets f same h = tt
refused search (Some known) octets f same h =
    subst (λ (l : List ℕ). ReadNetworkResult search l (Err f)) same (refused_in search octets f h)

-- a question goes to a target in memory
pub unplanned_in : (search : SearchTexts) (octets : List ℕ) (world : World) (f : Fault)
    → IsSearchedFile search octets world → PlanResult world (Err f) → ReadNetworkResult search octets (Err f)
unplanned_in search octets world (Line number) is h = inr (world, is, h)
unplanned_in search octets world Memory is h = tt
unplanned_in search octets world f is h = absurd h

pub unplanned : (search : SearchTexts) (file : Option (List ℕ)) (octets : List ℕ) (world : World) (f : Fault)
    → IfSome file (λ known. octets ≡ known) → IsSearchedFile search octets world → PlanResult world (Err f)
    → PlannedResult search file (Err f)
unplanned search None octets world f same is h = tt
unplanned search (Some known) octets world f same is h =
    subst (λ (l : List ℕ). ReadNetworkResult search l (Err f)) same (unplanned_in search octets world f is h)

-- ---- what came of it

as_asked : (choice : ChoiceTexts) (search : SearchTexts) (view : View) (octets : List ℕ) (e : NetworkRun)
    (result : Result Finished Fault) → IsNetworkFile search octets e → AskNetworkResult choice [] view e result
    → AskFileResult choice search view octets result
as_asked choice search view octets e (Ok r) from h = (e, from, h)
as_asked choice search view octets e (Err (NoQuestion unknown)) from h = (e, from, h)
as_asked choice search view octets e (Err (Write path)) from h = tt
as_asked choice search view octets e (Err Memory) from h = tt
as_asked choice search view octets e (Err f) from h = absurd h

pub asked_file : (choice : ChoiceTexts) (search : SearchTexts) (view : View) (file : Option (List ℕ)) (p : Planned)
    (result : Result Finished Fault) → IsPlannedOf search file p → AskNetworkResult choice [] view p.network result
    → IfSome file (λ octets. AskFileResult choice search view octets result)
asked_file choice search view None p result planned h = tt
asked_file choice search view (Some octets) p result planned h = as_asked choice search view octets p.network result
    (subst (λ (l : List ℕ). IsNetworkFile search l p.network) planned.world planned.network) h

as_unasked : (choice : ChoiceTexts) (search : SearchTexts) (view : View) (octets : List ℕ) (f : Fault)
    → ReadNetworkResult search octets (Err f) → AskFileResult choice search view octets (Err f)
as_unasked choice search view octets (Line number) h = h
as_unasked choice search view octets Memory h = tt
as_unasked choice search view octets (Query kind at text) h = h
as_unasked choice search view octets (Wanted text) h = h
as_unasked choice search view octets (Syntax text) h = h
as_unasked choice search view octets f h = absurd h

pub unasked_file : (choice : ChoiceTexts) (search : SearchTexts) (view : View) (file : Option (List ℕ)) (f : Fault)
    → PlannedResult search file (Err f) → IfSome file (λ octets. AskFileResult choice search view octets (Err f))
unasked_file choice search view None f h = tt
unasked_file choice search view (Some octets) f h = as_unasked choice search view octets f h

-- a fault of a file, of its texts, or of its plan
pub of_file : (file : Option (List ℕ)) (path : List ℕ) (f : Fault) → IsOfFile file path f → IsOfSearchedWorld path f
of_file file path (Read failed) h = h.0
of_file file path Memory h = tt
of_file file path f h = absurd h

pub of_texts : (path : List ℕ) (f : Fault) → IsOfTexts f → IsOfSearchedWorld path f
of_texts path (Line number) h = tt
of_texts path (Query kind at text) h = tt
of_texts path (Wanted text) h = tt
of_texts path (Syntax text) h = tt
of_texts path Memory h = tt
of_texts path f h = absurd h

pub of_plan : (path : List ℕ) (world : World) (f : Fault) → PlanResult world (Err f) → IsOfSearchedWorld path f
of_plan path world (Line number) h = tt
of_plan path world Memory h = tt
of_plan path world f h = absurd h

pub of_asking : (trace : Option (List ℕ)) (path : List ℕ) (f : Fault) → IsOfSearchedWorld path f
    → IsOfAsking trace path f
of_asking trace path (Read failed) h = h
of_asking trace path (Line number) h = tt
of_asking trace path (Query kind at text) h = tt
of_asking trace path (Wanted text) h = tt
of_asking trace path (Syntax text) h = tt
of_asking trace path Memory h = tt
of_asking trace path f h = absurd h

-- a fault of the choice, or of the trace
pub of_names : (trace : Option (List ℕ)) (path : List ℕ) (only names addresses : List (List ℕ)) (f : Fault)
    → AddressesResult only names addresses (Err f) → IsOfAsking trace path f
of_names trace path only names addresses (NoQuestion unknown) h = tt
of_names trace path only names addresses Memory h = tt
of_names trace path only names addresses f h = absurd h

pub of_trace : (trace : Option (List ℕ)) (path : List ℕ) (f : Fault) → IsTraceFault trace f → IsOfAsking trace path f
of_trace trace path (Write failed) h = h
of_trace trace path Memory h = tt
of_trace trace path f h = absurd h

pub unchosen : (choice : ChoiceTexts) (waits : List HostWaits) (view : View) (e : NetworkRun)
    (addresses : List (List ℕ)) (f : Fault) → AddressesResult choice.only e.names addresses (Err f)
    → AskNetworkResult choice waits view e (Err f)
unchosen choice waits view e addresses (NoQuestion unknown) h = h
unchosen choice waits view e addresses Memory h = tt
unchosen choice waits view e addresses f h = absurd h

pub untraced : (trace : Option (List ℕ)) (choice : ChoiceTexts) (waits : List HostWaits) (view : View)
    (e : NetworkRun) (f : Fault) → IsTraceFault trace f → AskNetworkResult choice waits view e (Err f)
untraced trace choice waits view e (Write failed) h = tt
untraced trace choice waits view e Memory h = tt
untraced trace choice waits view e f h = absurd h

-- why a file has no plan, and why its hosts were not asked
pub ruleset plan_faults = (unread, refused, unplanned, of_file, of_texts, of_plan)

pub ruleset ask_faults = (unasked_file, of_asking)

pub ruleset choice_faults = (of_names, of_trace, unchosen, untraced)
