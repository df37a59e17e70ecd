-- The facts of saved files together.
use Rattle.std.proofs.Common.{◌≡◌, ◌∙◌, ℕ, zero, suc, ◌+◌, ◌<◌, List, [], ◌∷◌, ◌++◌, take, drop, length, get_or, append_assoc, Option, Some, None, Result, Ok, Err, refl, ap, sym, subst, arith}
use Rattle.std.specs.Prelude.{IfErr, IfSome, slice_index_or}
use Rattle.std.specs.Borrow.{Bor}
use Rattle.std.proofs.KnownBytes.{Keeps-refl}
use Rattle.std.proofs.lemmas.List.{take_more, take-append-drop, map-append}
use Rattle.zknow.specs.declared.fact.Fact.{Fact}
use Rattle.zmeta_args.specs.declared.arguments.View.{View}
use Rattle.zmeta_offline.specs.Views.{printed}
use Rattle.zknow.specs.declared.saved.loading.LoadError.{LoadError}
use Rattle.zknow.specs.declared.saved.loading.LoadError.TheVariants as loads
use Rattle.zknow.specs.Saved.Loaded.{IsLoadFault}
use Rattle.zmeta_devices.specs.Faults.{of_load}
use Rattle.zmeta_args.specs.Texts.{texts_of}
use Rattle.zmeta_offline.specs.Join.{LoadFileResult, IsOfFile, IsSavedAt, IsFaultAt, LoadNamedResult, AbsorbNamedResult, AreJoined, IsRefusedAmong, AbsorbAllResult, LoadAllResult, IsListOf, IsKnownStatus, PutListResult, JoinResult}
use Rattle.zmeta_offline.specs.Join.AreJoined.{one, more}
use Rattle.zmeta_offline.specs.Join.IsRefusedAmong.{first, later, other_names}
use Rattle.zmeta_devices.specs.Devices.{Device, IsUnchanged}
use Rattle.zmeta_devices.specs.declared.fault.Fault.{Fault}
use Rattle.zmeta_devices.specs.declared.fault.Status.{Status}
use Rattle.zmeta_devices.specs.declared.fault.Fault.TheVariants.{Read, Write, NotKnowledge, NotCanonical, NamesDiffer, NoCatalogue, NotOid, Memory}

-- ---- one file

-- a file is refused
refused : (file : List ℕ) (path : Bor (List ℕ)) (e : LoadError) → IsLoadFault file e
    → LoadFileResult file (Err (of_load path e))
refused file path (loads.NotKnowledge at) h = h
refused file path (loads.NotCanonical at) h = h
refused file path loads.Memory h = tt

pub load_refused : (p : Option (List ℕ)) (octets : List ℕ) (path : Bor (List ℕ)) (e : LoadError) (f : Fault)
    (r : Result (List Fact × List (List ℕ)) Fault) → r ≡ Err f → f ≡ of_load path e → IfSome p (λ xs. octets ≡ xs)
    → IsLoadFault octets e → IfSome p (λ file. LoadFileResult file r)
load_refused None octets path e f r is of whole fault = tt
load_refused (Some file) octets path e f r is of whole fault =
    rw (is, of) (refused file path e (subst (λ l. IsLoadFault l e) whole fault))

-- ---- one more file

-- ---- all files

pub until : (others : List (Bor (List ℕ))) (i : ℕ) (p : Bor (List ℕ)) → i < length others → p ≡ get_or others i p
    → take (i + 1) others ≡ take i others ++ p ∷ []
until others i p lt is = take_more others i p lt ∙ ap (λ z. take i others ++ z ∷ []) (sym is)

pub joined_more : (octets : List ℕ → Option (List ℕ)) (names before : List (List ℕ)) (others : List (Bor (List ℕ)))
    (i : ℕ) (p : Bor (List ℕ)) (old new : List Fact) → i < length others → p ≡ get_or others i p
    → AreJoined octets names (before ++ texts_of (take i others)) old → AbsorbNamedResult octets names p.now old new (Ok tt)
    → AreJoined octets names (before ++ texts_of (take (i + 1) others)) new
joined_more octets names before others i p old new lt is joined a =
    let to : texts_of (take (i + 1) others) ≡ texts_of (take i others) ++ p.now ∷ [] =
    ap texts_of (until others i p lt is) ∙ map-append (λ (path : Bor (List ℕ)). path.now) (take i others) (p ∷ []) in
    let at : (before ++ texts_of (take i others)) ++ p.now ∷ [] ≡ before ++ texts_of (take (i + 1) others) =
    append_assoc before (texts_of (take i others)) (p.now ∷ []) ∙ ap (λ z. before ++ z) (sym to) in
    subst (λ z. AreJoined octets names z new) at (more p.now old a.0 joined a.1 a.2 a.3)

pub split : (others : List (Bor (List ℕ))) (i : ℕ) (p : Bor (List ℕ)) → i < length others → p ≡ get_or others i p
    → texts_of others ≡ texts_of (take i others) ++ p.now ∷ texts_of (drop (i + 1) others)
split others i p lt is =
    ap texts_of (sym (take-append-drop (i + 1) others))
    ∙ map-append (λ (path : Bor (List ℕ)). path.now) (take (i + 1) others) (drop (i + 1) others)
    ∙ ap (λ z. z ++ texts_of (drop (i + 1) others)) (ap texts_of (until others i p lt is)
    ∙ map-append (λ (path : Bor (List ℕ)). path.now) (take i others) (p ∷ []))
    ∙ append_assoc (texts_of (take i others)) (p.now ∷ []) (texts_of (drop (i + 1) others))

among : (octets : List ℕ → Option (List ℕ)) (names : List (List ℕ)) (paths : List (List ℕ)) (path : List ℕ)
    (rest : List (List ℕ)) (old new : List Fact) (f : Fault) → AreJoined octets names paths old
    → AbsorbNamedResult octets names path old new (Err f) → IsRefusedAmong octets (paths ++ path ∷ rest) f
among octets names paths path rest old new (Read told) joined a = later paths names rest old path joined a
among octets names paths path rest old new (NotKnowledge refused at) joined a = later paths names rest old path joined a
among octets names paths path rest old new (NotCanonical refused at) joined a = later paths names rest old path joined a
among octets names paths path rest old new Memory joined a = later paths names rest old path joined a
among octets names paths path rest old new NamesDiffer joined a = other_names paths names rest old path joined a
among octets names paths path rest old new f joined a = absurd a

-- one of the files is refused
pub other_refused : (octets : List ℕ → Option (List ℕ)) (names before : List (List ℕ)) (others : List (Bor (List ℕ)))
    (i : ℕ) (p : Bor (List ℕ)) (old new : List Fact) (f : Fault) → i < length others → p ≡ get_or others i p
    → AreJoined octets names (before ++ texts_of (take i others)) old → AbsorbNamedResult octets names p.now old new (Err f)
    → IsRefusedAmong octets (before ++ texts_of others) f
other_refused octets names before others i p old new f lt is joined a =
    let at : (before ++ texts_of (take i others)) ++ p.now ∷ texts_of (drop (i + 1) others) ≡ before ++ texts_of others =
    append_assoc before (texts_of (take i others)) (p.now ∷ texts_of (drop (i + 1) others))
    ∙ ap (λ z. before ++ z) (sym (split others i p lt is)) in
    subst (λ z. IsRefusedAmong octets z f) at
    (among octets names (before ++ texts_of (take i others)) p.now (texts_of (drop (i + 1) others)) old new f joined a)

pub all_refused : (octets : List ℕ → Option (List ℕ)) (names : List (List ℕ)) (others : List (Bor (List ℕ)))
    (old was now : List Fact) (i : ℕ) (p : Bor (List ℕ)) (g f : Fault) (r : Result (Unit {0}) Fault) → r ≡ Err f → f ≡ g
    → i < length others → p ≡ get_or others i p
    → ((before : List (List ℕ)) → AreJoined octets names before old
    → AreJoined octets names (before ++ texts_of (take i others)) was)
    → AbsorbNamedResult octets names p.now was now (Err g) → AbsorbAllResult octets names (texts_of others) old now r
all_refused octets names others old was now i p g f r is of lt at so a =
    rw (is, of) (λ before joined. other_refused octets names before others i p was now g lt at (so before joined) a)

-- an index within the list gives an item, whatever the default is
pub in_place : {X : Type 0} (xs : List X) (i : ℕ) (d : X) → i < length xs
    → slice_index_or xs i d ≡ get_or xs i (slice_index_or xs i d)
in_place [] i d lt = absurd (omega arith)
in_place (x ∷ xs) zero d lt = refl
in_place (x ∷ xs) (suc i) d lt = in_place xs i d (omega (arith, lt))

-- a file behind the first is refused
pub rest_refused : (octets : List ℕ → Option (List ℕ)) (names : List (List ℕ)) (path : List ℕ) (rest : List (List ℕ))
    (old new : List Fact) (g f : Fault) (r : Result (List Fact × List (List ℕ)) Fault) → r ≡ Err f → f ≡ g
    → IsSavedAt octets path names old → AbsorbAllResult octets names rest old new (Err g) → LoadAllResult octets (path ∷ rest) r
rest_refused octets names path rest old new g f r is of saved h = rw (is, of) (h (path ∷ []) (one path saved))

-- what is so of the octets of a file, if they are known, and of its path
pub named_result : (octets : List ℕ → Option (List ℕ)) (path : List ℕ)
    (r : Result (List Fact × List (List ℕ)) Fault) → IfSome (octets path) (λ file. LoadFileResult file r)
    → IfErr r (IsOfFile path) → LoadNamedResult octets path r
named_result octets path (Ok r) loaded of = loaded
named_result octets path (Err (NotKnowledge refused at)) loaded of = (of, loaded)
named_result octets path (Err (NotCanonical refused at)) loaded of = (of, loaded)
named_result octets path (Err (Read failed)) loaded of = (of, by (octets path) loaded)
  where
    by : (o : Option (List ℕ)) → IfSome o (λ file. ⊥) → o ≡ None
    by None none = refl
    by (Some file) none = absurd none
named_result octets path (Err Memory) loaded of = tt
named_result octets path (Err f) loaded of = absurd of

-- the first file is refused
pub first_refused : (octets : List ℕ → Option (List ℕ)) (path : List ℕ) (rest : List (List ℕ)) (g f : Fault)
    (r : Result (List Fact × List (List ℕ)) Fault) → r ≡ Err f → f ≡ g → IsFaultAt octets path g
    → LoadAllResult octets (path ∷ rest) r
first_refused octets path rest g f r is of h = rw (is, of) (first path rest h)

-- ---- what is printed

pub kept : (s : Device) → IsUnchanged s s
kept s = record { kept = Keeps-refl s.known; path = refl; sound = refl; explains = refl }

-- no fault of the files is one of the stream that is written, or of a record syntax
abbrev pub IsOfReading : Fault → Type 0
IsOfReading (Write told) = ⊥
IsOfReading (NotOid told) = ⊥
IsOfReading (NoCatalogue told) = ⊥
IsOfReading _ = Unit {0}

pub at_reading : (octets : List ℕ → Option (List ℕ)) (path : List ℕ) (f : Fault) → IsFaultAt octets path f → IsOfReading f
at_reading octets path (Read told) h = tt
at_reading octets path (NotKnowledge refused at) h = tt
at_reading octets path (NotCanonical refused at) h = tt
at_reading octets path Memory h = tt
at_reading octets path f h = absurd h

pub no_write : (octets : List ℕ → Option (List ℕ)) (paths : List (List ℕ)) (f : Fault) → IsRefusedAmong octets paths f
    → IsOfReading f
no_write octets paths f (first p rest fault) = at_reading octets p f fault
no_write octets paths f (later before names rest facts p joined fault) = at_reading octets p f fault
no_write octets paths f (other_names before names rest facts p joined other) = tt

told : (view : View) (octets : List ℕ → Option (List ℕ)) (paths : List (List ℕ)) (f : Fault) (old : Device)
    → IsRefusedAmong octets paths f → JoinResult view octets paths old old (Err f)
told view octets paths (Read path) old h = (h, kept old)
told view octets paths (NotKnowledge refused at) old h = (h, kept old)
told view octets paths (NotCanonical refused at) old h = (h, kept old)
told view octets paths NamesDiffer old h = (h, kept old)
told view octets paths Memory old h = kept old
told view octets paths (Write path) old h = absurd (no_write octets paths (Write path) h)
told view octets paths f old h = (h, kept old)

pub join_refused : (view : View) (octets : List ℕ → Option (List ℕ)) (paths : List (List ℕ)) (old : Device) (g f : Fault)
    (r : Result Status Fault) → r ≡ Err f → f ≡ g → IsRefusedAmong octets paths g → JoinResult view octets paths old old r
join_refused view octets paths old g f r is of h = rw (is, of) (told view octets paths g old h)

-- the list was written, or a front of it
put_joined : (view : View) (octets : List ℕ → Option (List ℕ)) (paths : List (List ℕ)) (facts : List Fact) (text : List ℕ)
    (old new : Device) (status : Status) (r : Result Status Fault) → IsListOf octets view paths facts text
    → IsKnownStatus facts status → PutListResult text status old new r → JoinResult view octets paths old new r
put_joined view octets paths facts text old new status (Ok s) l k p =
    (facts, text, l, subst (IsKnownStatus facts) (sym p.0) k, p.1)
put_joined view octets paths facts text old new status (Err (Write told)) l k p = (facts, text, l, p)
put_joined view octets paths facts text old new status (Err f) l k p = absurd p

pub join_done : (view : View) (octets : List ℕ → Option (List ℕ)) (paths names : List (List ℕ)) (known : List Fact)
    (old new : Device) (start text written : List ℕ) (status : Status) (r : Result Status Fault)
    → AreJoined octets names paths known → IsKnownStatus known status → start ≡ []
    → text ≡ start ++ printed names view [] [] known → written ≡ text → PutListResult written status old new r
    → JoinResult view octets paths old new r
join_done view octets paths names known old new start text written status r joined is s t o w =
    put_joined view octets paths known written old new status r
    (names, joined, o ∙ t ∙ ap (λ z. z ++ printed names view [] [] known) s) is w
