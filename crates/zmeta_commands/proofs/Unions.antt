-- The catalogues of a file, planned and asked.
use Rattle.std.proofs.Common.{◌≡◌, refl, sym, ◌∙◌, ap, subst, subst₂, ℕ, zero, suc, ◌+◌, ◌<◌, arith, List, [], ◌∷◌, ◌++◌, length, take, get_or, slice_index_or, slice_get, Option, Some, None, Result, Ok, Err, IfSome}
use Rattle.std.specs.Option.{option_map}
use Rattle.std.proofs.Math.Seq.{get_or-append_seam}
use Rattle.std.proofs.lemmas.List.{take_more, length-append}
use Rattle.zmeta_args.specs.declared.arguments.LimitOptions.{LimitOptions}
use Rattle.zmeta_args.specs.declared.arguments.SearchOptions.{SearchOptions}
use Rattle.zmeta_args.specs.declared.arguments.View.{View}
use Rattle.zmeta_catalogue_files.specs.declared.refusal.UnionFault.{UnionFault}
use Rattle.zmeta_catalogue_files.specs.declared.refusal.UnionFault.TheVariants as unions
use Rattle.zmeta_catalogue_files.specs.declared.unions.CatalogueWaits.{CatalogueWaits}
use Rattle.zmeta_catalogue_files.specs.declared.unions.Union.{Union}
use Rattle.zmeta_catalogue_files.specs.Unions.{IsUnion, UnionResult, IsOfUnion}
use Rattle.zmeta_catalogues.specs.Asked.{AskedSearch, IsAskedWorld}
use Rattle.zmeta_catalogues.specs.declared.catalogue.Catalogue.{Catalogue}
use Rattle.zmeta_devices.specs.declared.fault.Fault.{Fault}
use Rattle.zmeta_devices.specs.declared.fault.Fault.TheVariants.{NoQuestion, Line, Memory}
use Rattle.zmeta_world.specs.declared.network.NetworkRun.{NetworkRun}
use Rattle.zmeta_world.specs.declared.world.AskedQuestion.{AskedQuestion}
use Rattle.zmeta_world.specs.declared.world.End.{End}
use Rattle.zmeta_world.specs.declared.world.End.TheVariants as ends
use Rattle.zmeta_world.specs.declared.world.NamedHost.{NamedHost}
use Rattle.zmeta_world.specs.declared.world.World.{World}
use Rattle.zmeta_world.specs.NetworkRuns.{IsNetworkRun, host_at, IsFirstTargetLine}
use Rattle.zmarc.specs.declared.charset.Charset.{Charset}
use Rattle.zoom.specs.HostWaits.{HostWaits}
use Rattle.zmeta_commands.specs.declared.catalogue_files.UnionRun.{UnionRun}
use Rattle.zmeta_commands.specs.declared.finished.Finished.{Finished}
use Rattle.zmeta_commands.specs.Ask.{IsAskedAt}
use Rattle.zmeta_commands.specs.CatalogueFiles.{IsOwnWait, AreOwnWaits, IsUnionPlan, PlanUnionResult, AskUnionResult, IsOfUnionPlan, IsOfUnionAsk}
use Rattle.zmeta_commands.specs.Choice.{ChoiceTexts, AddressesResult}
use Rattle.zmeta_commands.specs.Finished.{asker}
use Rattle.zmeta_commands.specs.Worlds.{PlanResult}
use Rattle.zmeta_commands.proofs.Tracing.{in_place}

-- ---- waiting times

-- none yet
pub no_waits : (given : LimitOptions) (waits : List HostWaits) → waits ≡ [] → AreOwnWaits given [] waits
no_waits given waits is = subst (AreOwnWaits given []) (sym is) tt

last_waits : (given : LimitOptions) (all : List CatalogueWaits) (waits : List HostWaits) (said : CatalogueWaits)
    (own : HostWaits) → AreOwnWaits given all waits → IsOwnWait given said own
    → AreOwnWaits given (all ++ said ∷ []) (waits ++ own ∷ [])
last_waits given [] [] said own a b = (b, tt)
last_waits given [] (w ∷ waits) said own a b = absurd a
last_waits given (x ∷ all) [] said own a b = absurd a
last_waits given (x ∷ all) (w ∷ waits) said own a b = (a.0, last_waits given all waits said own a.1 b)

-- those of one more catalogue
pub more_waits : (given : LimitOptions) (all : List CatalogueWaits) (i : ℕ) (d : CatalogueWaits) (own : HostWaits)
    (old new : List HostWaits) → i < length all → AreOwnWaits given (take i all) old
    → IsOwnWait given (slice_index_or all i d) own → new ≡ old ++ own ∷ [] → AreOwnWaits given (take (i + 1) all) new
more_waits given all i d own old new lt before is made =
    let said : CatalogueWaits = slice_index_or all i d in
    let same : take (i + 1) all ≡ take i all ++ said ∷ [] =
    take_more all i said lt ∙ ap (λ (x : CatalogueWaits). take i all ++ x ∷ []) (sym (in_place all i d lt)) in
    subst₂ (AreOwnWaits given) (sym same) (sym made) (last_waits given (take i all) old said own before is)

-- ---- no question goes to a target in memory

something : {X Y : Type 0} (f : X → Y) (xs : List X) (i : ℕ) → i < length xs → option_map f (slice_get xs i) ≡ None → ⊥
something f [] i lt none = absurd (omega arith)
something f (x ∷ xs) zero lt none = absurd cc
something f (x ∷ xs) (suc i) lt none = something f xs i (omega arith) none

found_host : (cs : List Catalogue) (search : AskedSearch) (w : World) (at : ℕ) (q : AskedQuestion) → at < length cs
    → IsAskedWorld search cs w → q ≡ get_or w.questions at q
    → option_map (λ (h : NamedHost). h.address) (host_at w.hosts q.end) ≡ None → ⊥
found_host [] search w at q lt is here none = absurd (omega arith)
found_host (c ∷ cs) search w at q lt is here none =
    let end : q.end ≡ ends.Host at =
    ap (λ (x : AskedQuestion). x.end) here ∙ (is.asked.each_question at c q lt).end in
    something (λ (h : NamedHost). h.address) w.hosts at (omega (arith, lt, is.asked.as_many_hosts))
    (subst (λ (e : End). option_map (λ (h : NamedHost). h.address) (host_at w.hosts e) ≡ None) end none)

no_target : (cs : List Catalogue) (search : AskedSearch) (w : World) (line : ℕ) → IsAskedWorld search cs w
    → IsFirstTargetLine w.hosts w.questions line → ⊥
no_target cs search w line is u =
    let at = length u.front in
    let q = u.asked_question in
    let here : q ≡ get_or w.questions at q =
    sym (ap (λ (l : List AskedQuestion). get_or l at q) u.cut ∙ get_or-append_seam u.front q u.rest q) in
    let size = ap length u.cut ∙ length-append u.front (q ∷ u.rest) in
    found_host cs search w at q (omega (arith, size, is.asked.as_many)) is here u.none

-- ---- the plan of a file

refused_in : (given : LimitOptions) (options : SearchOptions) (octets : List ℕ) (f : UnionFault)
    → UnionResult octets options (Err f) → PlanUnionResult given options octets (Err f)
refused_in given options octets (unions.Fault Memory) h = tt
refused_in given options octets f h = h

-- the file, or the search, is refused
pub refused : (given : LimitOptions) (options : SearchOptions) (file : Option (List ℕ)) (f : UnionFault)
    → IfSome file (λ octets. UnionResult octets options (Err f))
    → IfSome file (λ octets. PlanUnionResult given options octets (Err f))
refused given options None f h = tt
refused given options (Some octets) f h = refused_in given options octets f h

unplanned_in : (given : LimitOptions) (options : SearchOptions) (octets : List ℕ) (u : Union) (f : Fault)
    → IsUnion octets options u → PlanResult u.world (Err f)
    → PlanUnionResult given options octets (Err (unions.Fault f))
unplanned_in given options octets u (Line number) is h =
    absurd (no_target is.list is.asked.search u.world number is.asked.world h)
unplanned_in given options octets u Memory is h = tt
unplanned_in given options octets u f is h = absurd h

-- no memory is found for the plan
pub unplanned : (given : LimitOptions) (options : SearchOptions) (file : Option (List ℕ)) (u : Union) (f : Fault)
    → IfSome file (λ octets. IsUnion octets options u) → PlanResult u.world (Err f)
    → IfSome file (λ octets. PlanUnionResult given options octets (Err (unions.Fault f)))
unplanned given options None u f is h = tt
unplanned given options (Some octets) u f is h = unplanned_in given options octets u f is h

-- no memory is found
pub no_memory : (given : LimitOptions) (options : SearchOptions) (file : Option (List ℕ))
    → IfSome file (λ octets. PlanUnionResult given options octets (Err (unions.Fault Memory)))
no_memory given options None = tt
no_memory given options (Some octets) = tt

-- the union has this plan
pub planned : (given : LimitOptions) (options : SearchOptions) (file : Option (List ℕ)) (u : Union) (e : NetworkRun)
    (waits : List HostWaits) → IfSome file (λ octets. IsUnion octets options u) → IsNetworkRun asker u.world e
    → AreOwnWaits given u.waits.items waits
    → IfSome file (λ octets. IsUnionPlan given options octets e waits u.charsets.items)
planned given options None u e waits is plan own = tt
planned given options (Some octets) u e waits is plan own =
    record { union = u; of = is; plan = plan; own = own; sets = refl }

-- a fault of a union, or of its plan
pub of_union : (path : List ℕ) (f : UnionFault) → IsOfUnion path f → IsOfUnionPlan path f
of_union path (unions.Fault (Line number)) h = tt
of_union path f h = h

pub of_plan : (path : List ℕ) (world : World) (f : Fault) → PlanResult world (Err f)
    → IsOfUnionPlan path (unions.Fault f)
of_plan path world (Line number) h = tt
of_plan path world Memory h = tt
of_plan path world f h = absurd h

-- ---- what came of it

unasked_in : (choice : ChoiceTexts) (given : LimitOptions) (options : SearchOptions) (view : View) (octets : List ℕ)
    (path : List ℕ) (f : UnionFault) → IsOfUnionPlan path f → PlanUnionResult given options octets (Err f)
    → AskUnionResult choice given options view octets (Err f)
unasked_in choice given options view octets path (unions.Fault (NoQuestion unknown)) of h = absurd of
unasked_in choice given options view octets path (unions.Fault Memory) of h = tt
unasked_in choice given options view octets path f of h = h

-- there is no plan
pub unasked : (choice : ChoiceTexts) (given : LimitOptions) (options : SearchOptions) (view : View)
    (file : Option (List ℕ)) (path : List ℕ) (f : UnionFault) → IsOfUnionPlan path f
    → IfSome file (λ octets. PlanUnionResult given options octets (Err f))
    → IfSome file (λ octets. AskUnionResult choice given options view octets (Err f))
unasked choice given options view None path f of h = tt
unasked choice given options view (Some octets) path f of h = unasked_in choice given options view octets path f of h

unchosen_in : (choice : ChoiceTexts) (given : LimitOptions) (options : SearchOptions) (view : View) (octets : List ℕ)
    (e : NetworkRun) (waits : List HostWaits) (charsets : List (Option Charset)) (f : Fault)
    → IsUnionPlan given options octets e waits charsets
    → AddressesResult choice.only e.names e.addresses (Err f)
    → AskUnionResult choice given options view octets (Err (unions.Fault f))
unchosen_in choice given options view octets e waits charsets (NoQuestion unknown) plan h =
    (e, waits, charsets, plan, h)
unchosen_in choice given options view octets e waits charsets Memory plan h = tt
unchosen_in choice given options view octets e waits charsets f plan h = absurd h

-- a chosen name is that of no catalogue
pub unchosen : (choice : ChoiceTexts) (given : LimitOptions) (options : SearchOptions) (view : View)
    (file : Option (List ℕ)) (run : UnionRun) (f : Fault)
    → IfSome file (λ octets. PlanUnionResult given options octets (Ok run))
    → AddressesResult choice.only run.network.names run.network.addresses (Err f)
    → IfSome file (λ octets. AskUnionResult choice given options view octets (Err (unions.Fault f)))
unchosen choice given options view None run f plan h = tt
unchosen choice given options view (Some octets) run f plan h =
    unchosen_in choice given options view octets run.network run.waits.items run.charsets.items f plan h

-- no memory is found for asking
pub no_memory_asked : (choice : ChoiceTexts) (given : LimitOptions) (options : SearchOptions) (view : View)
    (file : Option (List ℕ))
    → IfSome file (λ octets. AskUnionResult choice given options view octets (Err (unions.Fault Memory)))
no_memory_asked choice given options view None = tt
no_memory_asked choice given options view (Some octets) = tt

-- the chosen catalogues were asked
pub asked : (choice : ChoiceTexts) (given : LimitOptions) (options : SearchOptions) (view : View)
    (file : Option (List ℕ)) (run : UnionRun) (chosen : List (Option (List ℕ))) (r : Finished)
    → IfSome file (λ octets. PlanUnionResult given options octets (Ok run))
    → AddressesResult choice.only run.network.names run.network.addresses (Ok chosen)
    → IsAskedAt choice run.waits.items chosen view run.charsets.items run.network r
    → IfSome file (λ octets. AskUnionResult choice given options view octets (Ok r))
asked choice given options view None run chosen r plan picks put = tt
asked choice given options view (Some octets) run chosen r plan picks put = (
  run.network,
  run.waits.items,
  run.charsets.items,
  plan,
  record { known = picks.0; chosen = chosen; picks = picks.1; put = put },
)

-- a fault of asking
pub of_planning : (path : List ℕ) (f : UnionFault) → IsOfUnionPlan path f → IsOfUnionAsk path f
of_planning path (unions.Fault (NoQuestion unknown)) h = tt
of_planning path f h = h

pub of_names : (path : List ℕ) (only names addresses : List (List ℕ)) (f : Fault)
    → AddressesResult only names addresses (Err f) → IsOfUnionAsk path (unions.Fault f)
of_names path only names addresses (NoQuestion unknown) h = tt
of_names path only names addresses Memory h = tt
of_names path only names addresses f h = absurd h

-- why the catalogues of a file have no plan, and why they were not asked
pub ruleset plan_faults = (refused, unplanned, no_memory, of_union, of_plan)

pub ruleset ask_faults = (unasked, unchosen, no_memory_asked, of_planning, of_names)
