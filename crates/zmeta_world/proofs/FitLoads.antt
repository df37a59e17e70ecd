-- How many questions and records octets can make: each takes one octet at least.
use Rattle.std.proofs.Common.{◌≡◌, ◌∙◌, sym, ap, subst, refl, ℕ, ◌+◌, ◌<◌, ◌≤◌, ◌^◌, Bool, true, false, if◌then◌else◌, List, [], ◌∷◌, ◌++◌, length, Option, Some, None, arith, length-append}
use Rattle.std.specs.Option.{option_map}
use Rattle.zquery.specs.declared.notation.token.Token.{Token}
use Rattle.zquery.specs.Notation.Tokens.{AreTokens}
use Rattle.ztarget.specs.declared.database.Database.{Database}
use Rattle.ztarget.specs.declared.database.Entry.{Entry}
use Rattle.ztarget.specs.Searching.{entries_in}
use Rattle.zmeta_world.specs.InMemoryRuns.{AreSmall}
use Rattle.zmeta_world.specs.WorldLines.{token_texts, line_of, lines_of, is_feed}
use Rattle.zmeta_world.specs.Worlds.{AfterLine, AreWorld, none, more, IsWorld, in_last, with_targets, change_target, new_target, new_host, new_database, new_entry, add_field, add_content, in_database, add_database, in_target, asked_question, move_of, end_of, is_defined, is_among, place_of, asked_names, target_names, database_names}
use Rattle.zmeta_world.specs.declared.world.World.{World}
use Rattle.zmeta_world.specs.declared.world.NamedTarget.{NamedTarget}
use Rattle.zmeta_world.specs.declared.world.line.Content.{Content}
use Rattle.zmeta_world.specs.declared.world.line.Content.TheVariants as contents
use Rattle.zmeta_world.specs.declared.world.line.Line.{Line}
use Rattle.zmeta_world.specs.declared.world.line.Line.TheVariants as lines
use Rattle.zmeta_world.proofs.WorldParsing.{none_some, some_same}
use Rattle.zmeta_world.proofs.FitWants.{mapped}
use Rattle.zmeta_world.proofs.FitSizes.{held, held_append, Grows, last_held, last_length, cut_held, some_octet}

abbrev pub size_of : Database → ℕ
size_of d = length d.entries

abbrev pub entries : NamedTarget → ℕ
entries t = held size_of t.databases

-- the number of questions and records
abbrev pub load : World → ℕ
load w = length w.questions + held entries w.targets

-- ---- the last target

-- a value that passed the test
kept : {A : Type 0} (b : Bool) (x y : A) → (if b then None else Some x) ≡ Some y → x ≡ y
kept true x y e = absurd (none_some e)
kept false x y e = some_same x y e

database_grows : (name : List ℕ) → Grows entries 0 (add_database name)
database_grows name x y e =
    let same = kept (is_among name (database_names x.databases)) (record x { databases = x.databases ++ new_database name ∷ [] }) y e in
    let more = held_append size_of x.databases (new_database name ∷ []) in
    subst (λ z. entries z ≤ entries x + 0) same (omega (arith, more))

target_grows : (k : ℕ) (change : Database → Option Database) → Grows size_of k change → Grows entries k (in_target change)
target_grows k change g x y e =
    let m = mapped (λ databases. record x { databases = databases }) (in_last change x.databases) y e in
    subst (λ z. entries z ≤ entries x + k) m.gives (last_held size_of k change x.databases m.from g m.is)

content_adds : (content : Content) (xs ys : List Entry) → add_content content xs ≡ Some ys → length ys ≤ length xs + 1
content_adds (contents.Record syntax octets) xs ys e =
    let same = some_same (xs ++ new_entry syntax octets ∷ []) ys e in
    let more = length-append xs (new_entry syntax octets ∷ []) in
    subst (λ z. length z ≤ length xs + 1) same (omega (arith, more))
content_adds (contents.Field field) xs ys e =
    let same : length ys ≡ length xs = last_length (add_field field) xs ys e in
    omega (arith, same)

content_grows : (content : Content) → Grows size_of 1 (in_database (add_content content))
content_grows content x y e =
    let m = mapped (λ entries. record x { entries = entries }) (add_content content x.entries) y e in
    subst (λ z. size_of z ≤ size_of x + 1) m.gives (content_adds content x.entries m.from m.is)

targets_load : (k : ℕ) (change : NamedTarget → Option NamedTarget) (w v : World) → Grows entries k change → change_target change w ≡ Some v → load v ≤ load w + k
targets_load k change w v g e =
    let m = mapped (with_targets w) (in_last change w.targets) v e in
    let less : held entries m.from ≤ held entries w.targets + k = last_held entries k change w.targets m.from g m.is in
    subst (λ z. load z ≤ load w + k) m.gives (omega (arith, less))

-- ---- a line

same_load : (x v : World) → Some x ≡ Some v → load x ≡ load v
same_load x v e = ap load (some_same x v e)

chosen : (b : Bool) (x v : World) → (if b then None else Some x) ≡ Some v → load x ≡ load v
chosen b x v e = ap load (kept b x v e)

changed : {A : Type 0} (n : ℕ) (change : A → World) (o : Option A) (v : World) → ((a : A) → load (change a) ≡ n) → option_map change o ≡ Some v → n ≡ load v
changed n change o v same e = let m = mapped change o v e in sym (same m.from) ∙ ap load m.gives

without : {A : Type 0} (b : Bool) (n : ℕ) (change : A → World) (o : Option A) (v : World) → ((a : A) → load (change a) ≡ n) → (if b then None else option_map change o) ≡ Some v → n ≡ load v
without true n change o v same e = absurd (none_some e)
without false n change o v same e = changed n change o v same e

with : {A : Type 0} (b : Bool) (n : ℕ) (change : A → World) (o : Option A) (v : World) → ((a : A) → load (change a) ≡ n) → (if b then option_map change o else None) ≡ Some v → n ≡ load v
with true n change o v same e = changed n change o v same e
with false n change o v same e = absurd (none_some e)

leaves_load : (number : ℕ) (line : Line) (w v : World) → AfterLine number line w v → load v ≤ load w + 1
leaves_load number lines.Empty w v h = let same : load w ≡ load v = same_load w v h in omega (arith, same)
leaves_load number (lines.Step n) w v h =
    let same : load w ≡ load v = same_load (record w { step = n }) v h in omega (arith, same)
leaves_load number (lines.Window n) w v h =
    let same : load w ≡ load v = same_load (record w { window = n }) v h in omega (arith, same)
leaves_load number (lines.Target name settings) w v h =
    let same : load (with_targets w (w.targets ++ new_target name settings ∷ [])) ≡ load v =
    chosen (is_defined name w.targets w.hosts) (with_targets w (w.targets ++ new_target name settings ∷ [])) v h in
    omega (arith, same, held_append entries w.targets (new_target name settings ∷ []))
leaves_load number (lines.Host name address) w v h =
    let same : load w ≡ load v =
    chosen (is_defined name w.targets w.hosts) (record w { hosts = w.hosts ++ new_host name address ∷ [] }) v h in
    omega (arith, same)
leaves_load number (lines.Database name) w v h = omega (arith, targets_load 0 (add_database name) w v (database_grows name) h)
leaves_load number (lines.Content content) w v h =
    let change = in_database (add_content content) in
    targets_load 1 (in_target change) w v (target_grows 1 change (content_grows content)) h
leaves_load number (lines.Ask line) w v h =
    let one : (i : _) → load (record w { questions = w.questions ++ i ∷ [] }) ≡ load w + 1 =
    λ i. omega (arith, length-append w.questions (i ∷ [])) in
    let same : load w + 1 ≡ load v =
    without (is_among line.name (asked_names w.questions)) (load w + 1) (λ end. record w { questions = w.questions ++ asked_question number line h.0 end ∷ [] }) (end_of line.name w.targets w.hosts) v (λ end. one (asked_question number line h.0 end)) h.2 in
    omega (arith, same)
leaves_load number (lines.Carry way name k) w v h =
    let same : load w ≡ load v =
    with (is_among name (target_names w.targets)) (load w) (λ c. record w { moves = w.moves ++ move_of way c k ∷ [] }) (place_of name (asked_names w.questions)) v (λ c. refl) h in
    omega (arith, same)

-- a line without tokens changes nothing
idle : (number : ℕ) (line : Line) (w v : World) → line_of (token_texts []) ≡ Some line → AfterLine number line w v → load w ≡ load v
idle number line w v e h =
    same_load w v (subst (λ z. AfterLine number z w v) (sym (some_same lines.Empty line e)) h)

adds : (number : ℕ) (text : List ℕ) (tokens : List Token) (line : Line) (w v : World) → AreTokens tokens text → line_of (token_texts tokens) ≡ Some line → AfterLine number line w v → load v ≤ load w + length text
adds number text [] line w v lexed meaning h = let same : load w ≡ load v = idle number line w v meaning h in omega (arith, same)
adds number text (t ∷ ts) line w v lexed meaning h =
    let some : 0 < length text = some_octet t ts text lexed in
    let step : load v ≤ load w + 1 = leaves_load number line w v h in
    omega (arith, some, step)

-- ---- all lines

lines_load : {front : List (List ℕ)} {w : World} → AreWorld front w → load w ≤ held length front
lines_load none = omega arith
lines_load (more {front = front} {text = text} {w = w} {v = v} a m) =
    let before : load w ≤ held length front = lines_load a in
    let step : load v ≤ load w + length text = adds (length front + 1) text m.tokens m.line w v m.lexed m.meaning m.effect in
    let all : held length (front ++ text ∷ []) ≡ held length front + held length (text ∷ []) = held_append length front (text ∷ []) in
    omega (arith, before, step, all)

pub world_load : (file : List ℕ) (w : World) → IsWorld file w → load w ≤ length file
world_load file w h =
    let lines : load w ≤ held length (lines_of file) = lines_load h in
    let cut : held length (lines_of file) ≤ length file = cut_held is_feed file in
    omega (arith, lines, cut)

-- ---- targets

entries_held : (ds : List Database) → length (entries_in ds) ≡ held size_of ds
entries_held [] = refl
entries_held (d ∷ ds) = length-append d.entries (entries_in ds) ∙ ap (λ n. length d.entries + n) (entries_held ds)

pub small : (ts : List NamedTarget) → held entries ts < 2 ^ 32 → AreSmall ts
small [] h = tt
small (t ∷ ts) h = (omega (arith, h, entries_held t.databases), small ts (omega (arith, h)))
