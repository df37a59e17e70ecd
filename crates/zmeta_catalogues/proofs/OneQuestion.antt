-- One question of a search.
use Rattle.std.proofs.Common.{◌≡◌, ◌∙◌, sym, ap, refl, subst, ℕ, ◌<◌, List, [], ◌∷◌, ◌++◌, length, slice_index_or, Option, Some, None}
use Rattle.zmeta_world.specs.declared.world.AskedQuestion.{AskedQuestion}
use Rattle.zmeta_world.specs.Search.{SearchTexts, IsAskedBy, AreAskedBy, IsReplaced, IsElements}
use Rattle.zoom_questions.specs.Askable.{IsAskable, AreAskable}
use Rattle.zmeta_world.specs.Finding.{questions_of}
use Rattle.zquery.specs.Trees.{RpnQuery}
use Rattle.zmeta_catalogues.specs.declared.catalogue.Catalogue.{Catalogue}
use Rattle.zmeta_catalogues.specs.declared.search.AskError.{AskError}
use Rattle.zmeta_catalogues.specs.declared.search.AskError.TheVariants as errors
use Rattle.zmeta_catalogues.specs.Asked.{AskedSearch, elements_for, IsAskedQuery, IsAsked}
use Rattle.zmeta_catalogues.specs.declared.search.Term.{Term}
use Rattle.zmeta_catalogues.specs.AskErrors.{IsTermError, HasTermError, IsGivenError, IsOwnError, IsTermsQueryError, IsQueryErrorBy, IsQueryError, IsAskError, HasAskError, AreAskErrors}
use Rattle.zmeta_catalogues.proofs.AskedTerms.{no_term}
use Rattle.zmeta_catalogues.specs.Parts.{texts_for, question_to, IsLastQuestion, IsPutQuestion, IsPutError}

-- texts without a query
abbrev texts : List ℕ → Option (List ℕ) → Option (List ℕ) → SearchTexts
texts records elements syntax = record { query = None; records = Some records; elements = elements; syntax = syntax }

-- equal parts are equal texts
pub same_texts : (r s : List ℕ) (e f x y : Option (List ℕ)) → r ≡ s → e ≡ f → x ≡ y → texts r e x ≡ texts s f y
same_texts r s e f x y p q t =
    ap (λ (z : List ℕ). texts z e x) p ∙ ap (λ (z : Option (List ℕ)). texts s z x) q
    ∙ ap (λ (z : Option (List ℕ)). texts s f z) t

-- the only question of a world is its last
only : (s : SearchTexts) (was q : AskedQuestion) (front : List AskedQuestion)
    → AreAskedBy s (was ∷ []) (front ++ q ∷ []) → IsAskedBy s was q
only s was q [] h = h.0
only s was q (x ∷ []) h = absurd (h.1)
only s was q (x ∷ y ∷ front) h = absurd (h.1)

only_askable : (q : AskedQuestion) (front : List AskedQuestion) → AreAskable (questions_of (front ++ q ∷ []))
    → IsAskable q.question
only_askable q [] h = h.0
only_askable q (x ∷ front) h = only_askable q front h.1

-- the question of a world with one
pub put_question : (s : SearchTexts) (was q : AskedQuestion) (qs : List AskedQuestion) → AreAskedBy s (was ∷ []) qs
    → AreAskable (questions_of qs) → IsLastQuestion qs (Some q) → IsPutQuestion s was q
put_question s was q qs asked askable last = (
  only s was q last.0 (subst (λ (x : List AskedQuestion). AreAskedBy s (was ∷ []) x) last.1 asked),
  only_askable q last.0 (subst (λ (x : List AskedQuestion). AreAskable (questions_of x)) last.1 askable),
)

-- the question of a world that the search was put to
pub put_of : (s : AskedSearch) (c : Catalogue) (t : SearchTexts) (was q : AskedQuestion)
    (olds qs : List AskedQuestion) → t ≡ texts_for s c → olds ≡ was ∷ [] → AreAskedBy t olds qs
    → AreAskable (questions_of qs) → IsLastQuestion qs (Some q) → IsPutQuestion (texts_for s c) was q
put_of s c t was q olds qs same one asked askable last =
    put_question (texts_for s c) was q qs
    (subst (λ (x : SearchTexts). AreAskedBy x (was ∷ []) qs) same
    (subst (λ (x : List AskedQuestion). AreAskedBy t x qs) one asked))
    askable last

elements_kept : (text now : Option (List ℕ)) → IsReplaced IsElements text None now → now ≡ text
elements_kept None now h = h
elements_kept (Some text) now h = h

-- the question of a search to a catalogue
pub asked : (s : AskedSearch) (at : ℕ) (c : Catalogue) (query : RpnQuery) (q : AskedQuestion) → IsAskedQuery s c query
    → IsPutQuestion (texts_for s c) (question_to c at query) q → IsAsked s at c q
asked s at c query q is put =
    let by = put.0 in record {
      line = by.line;
      name = by.name;
      end = by.end;
      databases = by.databases;
      query = subst (λ (x : RpnQuery). IsAskedQuery s c x) (sym by.query) is;
      wanted = by.wanted;
      elements = elements_kept (elements_for s c) q.question.elements by.elements;
      syntax = by.syntax;
    }

-- ---- errors

-- no memory may be found
by_memory : (c : Catalogue) (ts : List Term) (own given : Option (List ℕ)) → IsQueryErrorBy c ts own given errors.Memory
by_memory c ts (Some text) given = tt
by_memory c ts None (Some text) = tt
by_memory c ts None None = tt

-- no query has this error
no_query : (c : Catalogue) (ts : List Term) (own given : Option (List ℕ)) (e : AskError)
    → ((text : List ℕ) → IsOwnError c text e → ⊥) → ((text : List ℕ) → IsGivenError c text e → ⊥)
    → (IsTermsQueryError c ts e → ⊥) → IsQueryErrorBy c ts own given e → ⊥
no_query c ts (Some text) given e no_own no_given no_terms h = no_own text h
no_query c ts None (Some text) e no_own no_given no_terms h = no_given text h
no_query c ts None None e no_own no_given no_terms h = no_terms h

-- an error of the query is one of the search
pub query_error : (s : AskedSearch) (c : Catalogue) (e : AskError) → IsQueryError s c e → IsAskError s c e
query_error s c (errors.NoSearch catalogue) h = h
query_error s c errors.TooManyTerms h = h
query_error s c (errors.BlankTerm access) h = h
query_error s c (errors.TermCharset catalogue access) h = h
query_error s c (errors.QueryCharset catalogue) h = h
query_error s c (errors.Query kind at) h = h
query_error s c (errors.Setting catalogue fault) h = h
query_error s c errors.Records h =
    absurd
    (no_query c s.terms c.query s.query errors.Records (λ text x. x) (λ text x. x)
    (no_term c s.terms errors.Records (λ t x. x)) h)
query_error s c errors.Syntax h =
    absurd
    (no_query c s.terms c.query s.query errors.Syntax (λ text x. x) (λ text x. x)
    (no_term c s.terms errors.Syntax (λ t x. x)) h)
query_error s c errors.Memory h = h

-- an error of what is wanted is one of the search
pub put_error : (s : AskedSearch) (c : Catalogue) (e : AskError) → IsPutError s c e → IsAskError s c e
put_error s c (errors.NoSearch catalogue) h = absurd h
put_error s c errors.TooManyTerms h = absurd h
put_error s c (errors.BlankTerm access) h = absurd h
put_error s c (errors.TermCharset catalogue access) h = absurd h
put_error s c (errors.QueryCharset catalogue) h = absurd h
put_error s c (errors.Query kind at) h = absurd h
put_error s c (errors.Setting catalogue fault) h = absurd h
put_error s c errors.Records h = h
put_error s c errors.Syntax h = h
put_error s c errors.Memory h = by_memory c s.terms c.query s.query

-- no memory may be found for a search
pub no_memory : (s : AskedSearch) (c : Catalogue) → IsAskError s c errors.Memory
no_memory s c = by_memory c s.terms c.query s.query

-- an error of one catalogue is one of them all
pub one_error : (s : AskedSearch) (cs : List Catalogue) (i : ℕ) (e : AskError) → i < length cs
    → ((d : Catalogue) → IsAskError s (slice_index_or cs i d) e) → AreAskErrors s cs e
one_error s cs i (errors.NoSearch catalogue) lt h = record { at = i; within = lt; error = h }
one_error s cs i errors.TooManyTerms lt h = record { at = i; within = lt; error = h }
one_error s cs i (errors.BlankTerm access) lt h = record { at = i; within = lt; error = h }
one_error s cs i (errors.TermCharset catalogue access) lt h = record { at = i; within = lt; error = h }
one_error s cs i (errors.QueryCharset catalogue) lt h = record { at = i; within = lt; error = h }
one_error s cs i (errors.Query kind at) lt h = record { at = i; within = lt; error = h }
one_error s cs i (errors.Setting catalogue fault) lt h = record { at = i; within = lt; error = h }
one_error s cs i errors.Records lt h = record { at = i; within = lt; error = h }
one_error s cs i errors.Syntax lt h = record { at = i; within = lt; error = h }
one_error s cs i errors.Memory lt h = tt
