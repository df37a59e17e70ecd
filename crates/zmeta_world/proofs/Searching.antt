-- One search for all questions: its parts, and the world with it.
use Rattle.std.proofs.Common.{◌≡◌, ◌∙◌, sym, ap, subst, refl, ℕ, ◌≤◌, List, [], ◌∷◌, ◌++◌, length, Option, Some, None, Result, Err, IfErr, IfSome, ◌⊎◌, inl, inr, arith}
use Rattle.std.specs.Option.{option_or}
use Rattle.zplan.specs.Ranges.{AreWanted, positions}
use Rattle.zplan.specs.declared.range.Range.{Range}
use Rattle.zquery.specs.Notation.Faults.{memory}
use Rattle.zquery.specs.Notation.Laws.{OneQueryOrFault}
use Rattle.zquery.specs.Notation.Texts.{IsTextFault}
use Rattle.zquery.specs.Trees.{RpnQuery}
use Rattle.zquery.specs.declared.notation.error.PqfErrorKind.{PqfErrorKind}
use Rattle.zquery.specs.declared.notation.error.PqfErrorKind.TheVariants as kinds
use Rattle.zoom_questions.specs.Askable.{AreAskable, IsAskable, HasFewArcs}
use Rattle.zmeta_world.specs.Finding.{questions_of}
use Rattle.zmeta_world.specs.InMemoryRuns.{IsFit}
use Rattle.zmeta_world.specs.WorldLines.{syntax_of}
use Rattle.zmeta_world.specs.WorldWants.{wanted_of}
use Rattle.zmeta_world.specs.Worlds.{IsQueryOf}
use Rattle.zmeta_world.specs.Search.{SearchTexts, IsReplaced, IsRead, IsWanted, IsAskedSyntax, IsElements, IsAskedBy, AreAskedBy, IsReadable, IsParsedSearch, IsSearchFault, HasNoFault, HasText, ReadQueryResult, ReadRecordsResult, ReadSyntaxResult, error_of_kind, asked_with, or_was, dotted_syntax}
use Rattle.zmeta_world.specs.declared.search.Parsed.{Parsed}
use Rattle.zmeta_world.specs.declared.search.SearchError.{SearchError}
use Rattle.zmeta_world.specs.declared.search.SearchError.TheVariants as errors
use Rattle.zmeta_world.specs.declared.world.AskedQuestion.{AskedQuestion}
use Rattle.zmeta_world.specs.declared.world.World.{World}
use Rattle.zmeta_world.proofs.FitWants.{wanted_fits, syntax_fits}

-- ---- the parts

same_kind : {k : PqfErrorKind} {at : ℕ} → (record { kind = k; at = at }) ≡ memory → k ≡ kinds.Memory
same_kind m = ap (λ z. z.kind) m

pub query_fault : (text : List ℕ) (k : PqfErrorKind) (at : ℕ) → ((record { kind = k; at = at }) ≡ memory) ⊎ IsTextFault text (record { kind = k; at = at })
    → ReadQueryResult (Some text) (Err (error_of_kind k at))
query_fault text kinds.OpenQuote at h = elim h [ inl m ↦ absurd (Prim.cc (same_kind m)) | inr g ↦ g ]
query_fault text kinds.Empty at h = elim h [ inl m ↦ absurd (Prim.cc (same_kind m)) | inr g ↦ g ]
query_fault text kinds.UnknownWord at h = elim h [ inl m ↦ absurd (Prim.cc (same_kind m)) | inr g ↦ g ]
query_fault text kinds.MissingOperand at h = elim h [ inl m ↦ absurd (Prim.cc (same_kind m)) | inr g ↦ g ]
query_fault text kinds.BadAttribute at h = elim h [ inl m ↦ absurd (Prim.cc (same_kind m)) | inr g ↦ g ]
query_fault text kinds.UnknownSet at h = elim h [ inl m ↦ absurd (Prim.cc (same_kind m)) | inr g ↦ g ]
query_fault text kinds.BadTermType at h = elim h [ inl m ↦ absurd (Prim.cc (same_kind m)) | inr g ↦ g ]
query_fault text kinds.BadNumber at h = elim h [ inl m ↦ absurd (Prim.cc (same_kind m)) | inr g ↦ g ]
query_fault text kinds.TooDeep at h = elim h [ inl m ↦ absurd (Prim.cc (same_kind m)) | inr g ↦ g ]
query_fault text kinds.Trailing at h = elim h [ inl m ↦ absurd (Prim.cc (same_kind m)) | inr g ↦ g ]
query_fault text kinds.Memory at h = tt

-- a part that cannot be read is a fault of the search
pub of_query : {A : Type 0} (s : SearchTexts) (e f : SearchError) (r : Result A SearchError) → r ≡ Err f → f ≡ e → ReadQueryResult s.query (Err e)
    → IfErr r (IsSearchFault s)
of_query s (errors.Query kind at) f r is of h = rw (is, of) h
of_query s errors.Records f r is of h = absurd h
of_query s errors.Syntax f r is of h = absurd h
of_query s errors.Memory f r is of h = rw (is, of) tt

pub of_records : {A : Type 0} (s : SearchTexts) (e f : SearchError) (r : Result A SearchError) → r ≡ Err f → f ≡ e → ReadRecordsResult s.records (Err e)
    → IfErr r (IsSearchFault s)
of_records s (errors.Query kind at) f r is of h = absurd h
of_records s errors.Records f r is of h = rw (is, of) h
of_records s errors.Syntax f r is of h = absurd h
of_records s errors.Memory f r is of h = rw (is, of) tt

pub of_syntax : {A : Type 0} (s : SearchTexts) (e f : SearchError) (r : Result A SearchError) → r ≡ Err f → f ≡ e → ReadSyntaxResult s.syntax (Err e)
    → IfErr r (IsSearchFault s)
of_syntax s (errors.Query kind at) f r is of h = absurd h
of_syntax s errors.Records f r is of h = absurd h
of_syntax s errors.Syntax f r is of h = rw (is, of) h
of_syntax s errors.Memory f r is of h = rw (is, of) tt

-- a fault of the search stays one
pub passed : {A : Type 0} (s : SearchTexts) (e f : SearchError) (r : Result A SearchError) → r ≡ Err f → f ≡ e → IsSearchFault s e → IfErr r (IsSearchFault s)
passed s e f r is of h = rw (is, of) h

-- ---- the texts that were read

means : {A : Type 0} (Means : List ℕ → A → Type 0) (text : Option (List ℕ)) (value : Option A) → IsRead Means text value
    → IfSome text (λ t. (v : A) × Means t v)
means Means None value r = tt
means Means (Some text) None r = absurd r
means Means (Some text) (Some value) r = (value, r)

pub readable : (s : SearchTexts) (p : Parsed) → IsParsedSearch s p → IsReadable s
readable s p r = record {
  query = means IsQueryOf s.query p.query r.query;
  wanted = means IsWanted s.records p.wanted r.wanted;
  syntax = means IsAskedSyntax s.syntax p.syntax r.syntax;
}

-- a text that stands for something has no fault
no_text_fault : (law : OneQueryOrFault) (text : Option (List ℕ)) (k : PqfErrorKind) (at : ℕ)
    → IfSome text (λ t. (query : RpnQuery) × IsQueryOf t query)
    → HasText (λ t. IsTextFault t (record { kind = k; at = at })) text → ⊥
no_text_fault law None k at r f = f
no_text_fault law (Some text) k at r f = law.either text r.0 (record { kind = k; at = at }) r.1.0 r.1.1 f

no_value_fault : {A : Type 0} (value : List ℕ → Option A) (text : Option (List ℕ))
    → IfSome text (λ t. (v : A) × (value t ≡ Some v)) → HasText (λ t. value t ≡ None) text → ⊥
no_value_fault value None r f = f
no_value_fault value (Some text) r f = absurd (Prim.cc (sym r.1 ∙ f))

pub no_fault : OneQueryOrFault → (s : SearchTexts) → IsReadable s → HasNoFault s
no_fault law s r (errors.Query kind at) other f = no_text_fault law s.query kind at r.query f
no_fault law s r errors.Records other f = no_value_fault wanted_of s.records r.wanted f
no_fault law s r errors.Syntax other f = no_value_fault (λ t. syntax_of (dotted_syntax t)) s.syntax r.syntax f
no_fault law s r errors.Memory other f = other refl

-- ---- one question

replaced : {A : Type 0} (Means : List ℕ → A → Type 0) (text : Option (List ℕ)) (value : Option A) (was : A) → IsRead Means text value
    → IsReplaced Means text was (or_was value was)
replaced Means None value was r = ap (λ v. or_was v was) r
replaced Means (Some text) None was r = absurd r
replaced Means (Some text) (Some value) was r = r

elements_replaced : (text value was : Option (List ℕ)) → value ≡ text → IsReplaced IsElements text was (option_or value was)
elements_replaced None value was e = ap (λ v. option_or v was) e
elements_replaced (Some text) value was e = ap (λ v. option_or v was) e

pub asked_by : (s : SearchTexts) (p : Parsed) (was : AskedQuestion) → IsParsedSearch s p → IsAskedBy s was (asked_with p was)
asked_by s p was r = record {
  line = refl;
  name = refl;
  end = refl;
  databases = refl;
  query = replaced _ s.query p.query was.question.query r.query;
  wanted = replaced IsWanted s.records p.wanted was.question.wanted r.wanted;
  elements = elements_replaced s.elements p.elements was.question.elements r.elements;
  syntax = replaced IsAskedSyntax s.syntax p.syntax was.question.syntax r.syntax;
}

-- ---- all questions

more_asked : (s : SearchTexts) (xs ys : List AskedQuestion) (x y : AskedQuestion) → AreAskedBy s xs ys → IsAskedBy s x y → AreAskedBy s (xs ++ x ∷ []) (ys ++ y ∷ [])
more_asked s [] [] x y a i = (i, tt)
more_asked s (q ∷ xs) (r ∷ ys) x y a i = (a.0, more_asked s xs ys x y a.1 i)
more_asked s [] (r ∷ ys) x y a i = absurd a
more_asked s (q ∷ xs) [] x y a i = absurd a

pub one_more_asked : (s : SearchTexts) (xs old new : List AskedQuestion) (p : Parsed) (x y : AskedQuestion) → AreAskedBy s xs old → IsParsedSearch s p
    → y ≡ asked_with p x → new ≡ old ++ y ∷ [] → AreAskedBy s (xs ++ x ∷ []) new
one_more_asked s xs old new p x y a r e n =
    rw (n) (more_asked s xs old x y a (rw (e) (asked_by s p x r)))

as_many : (s : SearchTexts) (xs ys : List AskedQuestion) → AreAskedBy s xs ys → length ys ≡ length xs
as_many s [] [] a = refl
as_many s (x ∷ xs) (y ∷ ys) a = omega (arith, as_many s xs ys a.1)
as_many s [] (y ∷ ys) a = absurd a
as_many s (x ∷ xs) [] a = absurd a

wanted_part : (text : Option (List ℕ)) (was now : List Range) → IsReplaced IsWanted text was now → AreWanted was × (length (positions was) ≤ 1000000)
    → AreWanted now × (length (positions now) ≤ 1000000)
wanted_part None was now e h = subst (λ z. AreWanted z × (length (positions z) ≤ 1000000)) (sym e) h
wanted_part (Some text) was now e h = let f = wanted_fits text now e in (record { apart = f.apart; bounded = f.bounded }, f.some)

syntax_part : (text was now : Option (List ℕ)) → IsReplaced IsAskedSyntax text was now → HasFewArcs was → HasFewArcs now
syntax_part None was now e h = subst HasFewArcs (sym e) h
syntax_part (Some text) was now e h = syntax_fits (dotted_syntax text) now e

one_askable : (s : SearchTexts) (was now : AskedQuestion) → IsAskedBy s was now → IsAskable was.question → IsAskable now.question
one_askable s was now a i =
    let w = wanted_part s.records was.question.wanted now.question.wanted a.wanted (i.wanted, i.some) in
    record { wanted = w.0; some = w.1; syntax = syntax_part s.syntax was.question.syntax now.question.syntax a.syntax i.syntax }

all_askable : (s : SearchTexts) (xs ys : List AskedQuestion) → AreAskedBy s xs ys → AreAskable (questions_of xs) → AreAskable (questions_of ys)
all_askable s [] [] a h = tt
all_askable s (x ∷ xs) (y ∷ ys) a h = (one_askable s x y a.0 h.0, all_askable s xs ys a.1 h.1)
all_askable s [] (y ∷ ys) a h = absurd a
all_askable s (x ∷ xs) [] a h = absurd a

-- ---- the world

pub fit_with : (s : SearchTexts) (was : World) (now : List AskedQuestion) → IsFit was → AreAskedBy s was.questions now
    → IsFit (record was { questions = now })
fit_with s was now f a = record {
  few = omega (arith, f.few, as_many s was.questions now a);
  askable = all_askable s was.questions now a f.askable;
  settings = f.settings;
  small = f.small;
}
