-- Why a host or a question cannot be said, by what was tested.
use Rattle.std.proofs.Common.{◌≡◌, ◌∙◌, refl, sym, ap, subst, ℕ, ◌==◌, List, [], ◌∷◌, ◌++◌, length, Bool, true, false, not, if◌then◌else◌, Option, Some, None, Ok, Err}
use Rattle.std.specs.Option.{option_map, is_some}
use Rattle.zber.specs.Oids.{IsOid}
use Rattle.zquery.specs.Notation.Printing.{printable, query_text}
use Rattle.zquery.specs.Notation.Texts.{IsText}
use Rattle.zmeta_world.specs.declared.world.NamedHost.{NamedHost}
use Rattle.zmeta_world.specs.declared.world.AskedQuestion.{AskedQuestion}
use Rattle.zmeta_conversions.specs.declared.worlds.Unsaid.{Unsaid}
use Rattle.zmeta_conversions.specs.declared.worlds.Unsaid.TheVariants as reasons
use Rattle.zmeta_conversions.specs.declared.worlds.WorldFileError.{WorldFileError}
use Rattle.zmeta_conversions.specs.Worlds.{Reason, has_feed, host_text, host_line, ask_text, ask_line, ask_reason, unsaid_host, unsaid_question, IsUnsaid, PutResult, IsSyntax, IsReadable, IsSaid}

-- ---- record syntaxes

none_some : (oid : List ℕ) → None ≡ Some oid → ⊥
none_some oid e = absurd (Prim.cc e)

or_this : List ℕ → Option (List ℕ) → List ℕ
or_this oid None = oid
or_this oid (Some o) = o

pub is_syntax : (syntax : Option (List ℕ)) (oid : List ℕ) → syntax ≡ Some oid → IsOid oid → IsSyntax syntax
unfolding or_this
is_syntax syntax oid is h = λ other e. subst IsOid (ap (or_this oid) (sym is ∙ e)) h

pub no_syntax : (syntax : Option (List ℕ)) → syntax ≡ None → IsSyntax syntax
no_syntax syntax is = λ other e. absurd (none_some other (sym is ∙ e))

-- ---- hosts

named_if : List ℕ → Bool → Option Reason
named_if name b = option_map (λ (r : Unsaid). (name, r)) (if b then Some reasons.LineFeed else None)

host_fed : (h : NamedHost) → has_feed (host_text h) ≡ true → unsaid_host h ≡ Some (h.name, reasons.LineFeed)
unfolding named_if
host_fed h e = ap (named_if h.name) e

host_said : (h : NamedHost) → has_feed (host_text h) ≡ false → unsaid_host h ≡ None
unfolding named_if
host_said h e = ap (named_if h.name) e

-- the line of a host has a line feed
pub host_refused : (h : NamedHost) (text old new : List ℕ) (e : WorldFileError) → text ≡ host_text h
    → has_feed text ≡ true → IsUnsaid (Some (h.name, reasons.LineFeed)) e
    → PutResult (unsaid_host h) (host_line h) old new (Err e)
host_refused h text old new e is fed u = subst (λ (z : Option Reason). IsUnsaid z e)
    (sym (host_fed h (ap has_feed (sym is) ∙ fed))) u

-- the line of a host was appended
pub host_put : (h : NamedHost) (text old new : List ℕ) → text ≡ host_text h → has_feed text ≡ false
    → new ≡ old ++ (text ++ 10 ∷ [])
    → PutResult (unsaid_host h) (host_line h) old new (Ok tt)
host_put h text old new is fed put =
    (host_said h (ap has_feed (sym is) ∙ fed), put ∙ ap (λ (z : List ℕ). old ++ (z ++ 10 ∷ [])) is)

-- ---- questions

reason_if : Bool → Bool → Bool → Bool → Option Unsaid
reason_if one elements query fed =
    if not one then Some reasons.Databases
    else if elements then Some reasons.Elements
    else if not query then Some reasons.Query
    else if fed then Some reasons.LineFeed
    else None

reason_of : (q : AskedQuestion) (a b c d : Bool) → (length q.question.databases == 1) ≡ a
    → is_some q.question.elements ≡ b → printable q.question.query ≡ c → has_feed (ask_text q) ≡ d
    → ask_reason q ≡ reason_if a b c d
unfolding reason_if
reason_of q a b c d e f g h =
    ap (λ (z : Bool). reason_if z (is_some q.question.elements) (printable q.question.query) (has_feed (ask_text q))) e
    ∙ ap (λ (z : Bool). reason_if a z (printable q.question.query) (has_feed (ask_text q))) f
    ∙ ap (λ (z : Bool). reason_if a b z (has_feed (ask_text q))) g
    ∙ ap (λ (z : Bool). reason_if a b c z) h

told : (q : AskedQuestion) (r : Unsaid) (e : WorldFileError) → ask_reason q ≡ Some r → IsUnsaid (Some (q.name, r)) e
    → IsUnsaid (unsaid_question q) e
told q r e is u =
    subst (λ (z : Option Reason). IsUnsaid z e)
    (sym (ap (λ (z : Option Unsaid). option_map (λ (x : Unsaid). (q.name, x)) z) is)) u

pub databases_refused : (q : AskedQuestion) (e : WorldFileError) → (length q.question.databases == 1) ≡ false
    → IsUnsaid (Some (q.name, reasons.Databases)) e → IsUnsaid (unsaid_question q) e
unfolding reason_if
databases_refused q e one u =
    told q reasons.Databases e (reason_of q false (is_some q.question.elements) (printable q.question.query)
    (has_feed (ask_text q)) one refl refl refl) u

pub elements_refused : (q : AskedQuestion) (e : WorldFileError) → (length q.question.databases == 1) ≡ true
    → is_some q.question.elements ≡ true → IsUnsaid (Some (q.name, reasons.Elements)) e
    → IsUnsaid (unsaid_question q) e
unfolding reason_if
elements_refused q e one some u =
    told q reasons.Elements e (reason_of q true true (printable q.question.query) (has_feed (ask_text q)) one some
    refl refl) u

pub query_refused : (q : AskedQuestion) (e : WorldFileError) → (length q.question.databases == 1) ≡ true
    → is_some q.question.elements ≡ false → printable q.question.query ≡ false
    → IsUnsaid (Some (q.name, reasons.Query)) e → IsUnsaid (unsaid_question q) e
unfolding reason_if
query_refused q e one some query u =
    told q reasons.Query e (reason_of q true false false (has_feed (ask_text q)) one some query refl) u

pub feed_refused : (q : AskedQuestion) (text : List ℕ) (e : WorldFileError)
    → (length q.question.databases == 1) ≡ true → is_some q.question.elements ≡ false
    → printable q.question.query ≡ true
    → text ≡ ask_text q → has_feed text ≡ true → IsUnsaid (Some (q.name, reasons.LineFeed)) e
    → IsUnsaid (unsaid_question q) e
unfolding reason_if
feed_refused q text e one some query is fed u =
    told q reasons.LineFeed e (reason_of q true false true true one some query (ap has_feed (sym is) ∙ fed)) u

pub question_said : (q : AskedQuestion) (text : List ℕ) → (length q.question.databases == 1) ≡ true
    → is_some q.question.elements ≡ false → printable q.question.query ≡ true
    → text ≡ ask_text q → has_feed text ≡ false → IsText (query_text q.question.query) q.question.query
    → IsSyntax q.question.syntax → IsSaid q text
unfolding reason_if
question_said q text one some query is fed reads oid = record {
  said = reason_of q true false true false one some query (ap has_feed (sym is) ∙ fed);
  line = is;
  readable = record { query = reads; syntax = oid };
}

pub question_readable : (q : AskedQuestion) (text : List ℕ) → IsSaid q text → IsReadable q
question_readable q text s = s.readable

-- the line of a question was appended
pub question_put : (q : AskedQuestion) (text old new : List ℕ) → IsSaid q text → new ≡ old ++ (text ++ 10 ∷ [])
    → PutResult (unsaid_question q) (ask_line q) old new (Ok tt)
question_put q text old new s put = (
  ap (λ (z : Option Unsaid). option_map (λ (x : Unsaid). (q.name, x)) z) s.said,
  put ∙ ap (λ (z : List ℕ). old ++ (z ++ 10 ∷ [])) s.line,
)

-- a question that is said, or why it is refused
pub ruleset question_results =
    (databases_refused, elements_refused, query_refused, feed_refused, question_said)
