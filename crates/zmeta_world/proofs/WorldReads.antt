-- What each line adds, and that the sets of names stay correct.
use Rattle.std.proofs.Common.{◌≡◌, ◌∙◌, sym, ap, subst, ℕ, List, [], ◌∷◌, ◌++◌, map, Bool, true, false, if◌then◌else◌, Option, Some, None, Result, Err, refl}
use Rattle.std.specs.Option.{option_map}
use Rattle.ztarget.specs.declared.database.Database.{Database}
use Rattle.ztarget.specs.declared.database.Entry.{Entry}
use Rattle.ztarget.specs.declared.settings.TargetSettings.{TargetSettings}
use Rattle.zmeta_world.specs.Worlds.{in_last, in_database, in_target, add_database, change_target, with_targets, new_database, is_among, target_names, database_names}
use Rattle.zmeta_world.specs.declared.world.World.{World}
use Rattle.zmeta_world.specs.declared.world.NamedTarget.{NamedTarget}
use Rattle.zmeta_world.specs.World.{LineResult}
use Rattle.zmeta_world.specs.WorldParts.{list_of, target}
use Rattle.zmeta_world.specs.declared.world.fault.LineFault.{LineFault}
use Rattle.zmeta_world.specs.declared.world.fault.LineFault.TheVariants as faults
use Rattle.zmeta_world.proofs.WorldLast.{in_last_end}
use Rattle.zmeta_world.proofs.WorldParsing.{none_some, some_same}

-- ---- a target and a host

-- ---- the last target

pub changed : (change : NamedTarget → Option NamedTarget) (w : World) (targets : List NamedTarget) → in_last change w.targets ≡ Some targets → change_target change w ≡ Some (record w { targets = targets })
changed change w targets e = ap (option_map (with_targets w)) e

last_named : {A : Type 0} (name : A → List ℕ) (t : A) (o : Option A) (ys : List A) → ((u : A) → o ≡ Some u → name t ≡ name u) → option_map (λ y. y ∷ []) o ≡ Some ys → map name (t ∷ []) ≡ map name ys
last_named name t None ys k e = absurd (none_some e)
last_named name t (Some u) ys k e = ap (λ z. z ∷ []) (k u refl) ∙ ap (map name) (some_same (u ∷ []) ys e)

rest_named : {A : Type 0} (name : A → List ℕ) (t : A) (xs : List A) (o : Option (List A)) (ys : List A) → ((zs : List A) → o ≡ Some zs → map name xs ≡ map name zs) → option_map (λ zs. t ∷ zs) o ≡ Some ys → map name (t ∷ xs) ≡ map name ys
rest_named name t xs None ys k e = absurd (none_some e)
rest_named name t xs (Some zs) ys k e = ap (λ z. name t ∷ z) (k zs refl) ∙ ap (map name) (some_same (t ∷ zs) ys e)

-- the names are unchanged
stay : {A : Type 0} (name : A → List ℕ) (change : A → Option A) (xs ys : List A) → ((t u : A) → change t ≡ Some u → name t ≡ name u) → in_last change xs ≡ Some ys → map name xs ≡ map name ys
stay name change [] ys k e = absurd (none_some e)
stay name change (x ∷ []) ys k e = last_named name x (change x) ys (k x) e
stay name change (x ∷ y ∷ xs) ys k e = rest_named name x (y ∷ xs) (in_last change (y ∷ xs)) ys (λ zs f. stay name change (y ∷ xs) zs k f) e

pub names_stay : (change : NamedTarget → Option NamedTarget) (xs ys : List NamedTarget) → ((t u : NamedTarget) → change t ≡ Some u → t.name ≡ u.name) → in_last change xs ≡ Some ys → target_names xs ≡ target_names ys
names_stay change xs ys k e = stay (λ t. t.name) change xs ys k e

pub databases_stay : (change : Database → Option Database) (xs ys : List Database) → ((d u : Database) → change d ≡ Some u → d.name ≡ u.name) → in_last change xs ≡ Some ys → database_names xs ≡ database_names ys
databases_stay change xs ys k e = stay (λ d. d.name) change xs ys k e

with_entries : (o : Option (List Entry)) (d u : Database) → option_map (λ entries. record d { entries = entries }) o ≡ Some u → d.name ≡ u.name
with_entries None d u e = absurd (none_some e)
with_entries (Some xs) d u e = ap (λ z. z.name) (some_same (record d { entries = xs }) u e)

pub database_stays : (change : List Entry → Option (List Entry)) (d u : Database) → in_database change d ≡ Some u → d.name ≡ u.name
database_stays change d u e = with_entries (change d.entries) d u e

-- if the databases of the last target cannot be changed, the target cannot be changed
last_kept : (change : Database → Option Database) (before : List NamedTarget) (t : NamedTarget) → in_last change t.databases ≡ None → in_last (in_target change) (before ++ t ∷ []) ≡ None
last_kept change before t e =
    in_last_end (in_target change) before t ∙ ap (λ z. option_map (λ y. before ++ y ∷ []) (option_map (λ databases. record t { databases = databases }) z)) e

refused_by : (change : Database → Option Database) (before : List NamedTarget) (t : NamedTarget) (e : LineFault) → LineResult {A = List Database} (in_last change t.databases) (Err e) → LineResult {A = List NamedTarget} (in_last (in_target change) (before ++ t ∷ [])) (Err e)
refused_by change before t faults.Refused h = last_kept change before t h
refused_by change before t faults.Memory h = tt

pub refused_in : (change : Database → Option Database) (before : List NamedTarget) (t : NamedTarget) (e f : LineFault) (r : Result (List NamedTarget) LineFault) → r ≡ Err f → f ≡ e → LineResult {A = List Database} (in_last change t.databases) (Err e) → LineResult (in_last (in_target change) (before ++ t ∷ [])) r
refused_in change before t e f r is of h = rw (is, of) (refused_by change before t e h)

chosen : (b : Bool) (t u v : NamedTarget) → t.name ≡ u.name → (if b then None else Some u) ≡ Some v → t.name ≡ v.name
chosen true t u v k e = absurd (none_some e)
chosen false t u v k e = k ∙ ap (λ z. z.name) (some_same u v e)

pub database_keeps : (name : List ℕ) (t u : NamedTarget) → add_database name t ≡ Some u → t.name ≡ u.name
database_keeps name t u e = chosen (is_among name (database_names t.databases)) t (record t { databases = t.databases ++ new_database name ∷ [] }) u refl e

mapped : (o : Option (List Database)) (t u : NamedTarget) → option_map (λ databases. record t { databases = databases }) o ≡ Some u → t.name ≡ u.name
mapped None t u e = absurd (none_some e)
mapped (Some ds) t u e = ap (λ z. z.name) (some_same (record t { databases = ds }) u e)

pub target_keeps : (change : Database → Option Database) (t u : NamedTarget) → in_target change t ≡ Some u → t.name ≡ u.name
target_keeps change t u e = mapped (in_last change t.databases) t u e

-- ---- a move

-- ---- the databases of the last target

pub still_named : (change : Database → Option Database) (keys : List (List ℕ)) (had es : List Database) → ((d u : Database) → change d ≡ Some u → d.name ≡ u.name) → keys ≡ database_names had → in_last change had ≡ Some es → keys ≡ database_names es
still_named change keys had es k n e = n ∙ databases_stay change had es k e

pub refused_last : (change : Database → Option Database) (before : List NamedTarget) (name : List ℕ) (settings : TargetSettings) (had : List Database) (whole : Option (List NamedTarget)) (last : List NamedTarget) (e f : LineFault) (r : Result (List NamedTarget) LineFault) → whole ≡ Some last → before ++ target name settings had ∷ [] ≡ last → r ≡ Err f → f ≡ e → LineResult {A = List Database} (in_last change had) (Err e) → LineResult (in_last (in_target change) (list_of whole)) r
refused_last change before name settings had whole last e f r some view err of h =
    subst (λ z. LineResult {A = List NamedTarget} (in_last (in_target change) z) r) (view ∙ sym (ap list_of some)) (refused_in change before (target name settings had) e f r err of h)
