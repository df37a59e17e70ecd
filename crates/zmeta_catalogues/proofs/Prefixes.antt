-- Prefixes and queries, and why a text is none.
use Rattle.std.proofs.Common.{◌≡◌, ap, refl, sym, subst, ℕ, Option, Some, List, ◌++◌, codes, Result, Ok, Err, IfOk, IfErr, ◌⊎◌, inl, inr, arith}
use Rattle.zquery.specs.Notation.Faults.{memory}
use Rattle.zquery.specs.Notation.Laws.{OneQueryOrFault}
use Rattle.zquery.specs.Notation.Texts.{IsText, IsTextFault}
use Rattle.zquery.specs.Trees.{RpnQuery}
use Rattle.zquery_rpn.specs.declared.query.Attr.{Attr}
use Rattle.zquery.specs.declared.notation.error.PqfError.{PqfError}
use Rattle.zquery.specs.declared.notation.error.PqfErrorKind.{PqfErrorKind}
use Rattle.zquery.specs.declared.notation.error.PqfErrorKind.TheVariants as kinds
use Rattle.zmeta_catalogues.specs.declared.catalogue.Terms.{Terms}
use Rattle.zmeta_catalogues.specs.declared.fault.Key.{Key}
use Rattle.zmeta_catalogues.specs.declared.fault.Stop.{Stop}
use Rattle.zmeta_catalogues.specs.declared.fault.Stop.TheVariants as stops
use Rattle.zmeta_catalogues.specs.Operands.{operand_query, prefix_stop_of, stop_of_kind, IsOtherStop, IsNoOperand, IsOperandStop, IsPrefix, IsPrefixStop, IsQueryStop, IsGivenPrefixStop, of_term, IsTextStop, term_of}

same_kind : {k : PqfErrorKind} {at : ℕ} → (record { kind = k; at = at }) ≡ memory → k ≡ kinds.Memory
same_kind m = ap (λ z. z.kind) m

-- an error of another kind is of the text
pub text_fault : (text : List ℕ) (k : PqfErrorKind) (at : ℕ) → (k ≡ kinds.Memory → ⊥)
    → ((record { kind = k; at = at }) ≡ memory) ⊎ IsTextFault text (record { kind = k; at = at })
    → IsTextFault text (record { kind = k; at = at })
text_fault text k at other h = elim h [ inl m ↦ absurd (other (same_kind m)) | inr g ↦ g ]

-- the text of a query that is the operand stands for the operand
pub operand_of : (text : List ℕ) (query : RpnQuery) → IsText text query → (r : Result (List Attr) Stop)
    → IfOk r (λ attrs. query ≡ operand_query attrs) → IfOk r (λ attrs. IsText text (operand_query attrs))
operand_of text query is (Ok attrs) h = subst (λ (q : RpnQuery). IsText text q) h is
operand_of text query is (Err stop) h = tt

-- the text of another query does not stand for the operand
pub other_query : OneQueryOrFault → (key : Key) (text : List ℕ) (query : RpnQuery) → IsText text query
    → (r : Result (List Attr) Stop) → IfErr r (IsOtherStop key query) → IfErr r (IsOperandStop key text)
other_query law key text query is (Ok attrs) h = tt
other_query law key text query is (Err (stops.Fault f)) h =
    (h.0, λ attrs operand. h.1 attrs (law.one_query text query (operand_query attrs) is operand))
other_query law key text query is (Err stops.Memory) h = tt

-- a text that stands for no query does not stand for the operand
no_operand : OneQueryOrFault → (text : List ℕ) (e : PqfError) → IsTextFault text e → IsNoOperand text
no_operand law text e fault attrs operand = law.either text (operand_query attrs) e operand (omega arith) fault

-- an error of the prefix notation says why a text does not stand for the operand
pub refused_operand : OneQueryOrFault → (key : Key) (text : List ℕ) (k : PqfErrorKind) (at : ℕ)
    → ((record { kind = k; at = at }) ≡ memory) ⊎ IsTextFault text (record { kind = k; at = at })
    → IsOperandStop key text (prefix_stop_of key k)
refused_operand law key text kinds.OpenQuote at h =
    (refl, no_operand law text _ (text_fault text kinds.OpenQuote at (λ e. Prim.cc e) h))
refused_operand law key text kinds.Empty at h =
    (refl, no_operand law text _ (text_fault text kinds.Empty at (λ e. Prim.cc e) h))
refused_operand law key text kinds.UnknownWord at h =
    (refl, no_operand law text _ (text_fault text kinds.UnknownWord at (λ e. Prim.cc e) h))
refused_operand law key text kinds.MissingOperand at h =
    (refl, no_operand law text _ (text_fault text kinds.MissingOperand at (λ e. Prim.cc e) h))
refused_operand law key text kinds.BadAttribute at h =
    (refl, no_operand law text _ (text_fault text kinds.BadAttribute at (λ e. Prim.cc e) h))
refused_operand law key text kinds.UnknownSet at h =
    (refl, no_operand law text _ (text_fault text kinds.UnknownSet at (λ e. Prim.cc e) h))
refused_operand law key text kinds.BadTermType at h =
    (refl, no_operand law text _ (text_fault text kinds.BadTermType at (λ e. Prim.cc e) h))
refused_operand law key text kinds.BadNumber at h =
    (refl, no_operand law text _ (text_fault text kinds.BadNumber at (λ e. Prim.cc e) h))
refused_operand law key text kinds.TooDeep at h =
    (refl, no_operand law text _ (text_fault text kinds.TooDeep at (λ e. Prim.cc e) h))
refused_operand law key text kinds.Trailing at h =
    (refl, no_operand law text _ (text_fault text kinds.Trailing at (λ e. Prim.cc e) h))
refused_operand law key text kinds.Memory at h = tt

-- a prefix with the operand behind it
pub tried_prefix : (prefix text : List ℕ) (attrs : List Attr) → text ≡ prefix ++ codes " x"
    → IsText text (operand_query attrs) → IsPrefix prefix attrs
tried_prefix prefix text attrs is h = subst (λ (t : List ℕ). IsText t (operand_query attrs)) is h

-- a text with the operand behind it that does not stand for the operand
pub tried_stop : (key : Key) (prefix text : List ℕ) (stop : Stop) → text ≡ prefix ++ codes " x"
    → IsOperandStop key text stop → IsPrefixStop key prefix stop
tried_stop key prefix text stop is h = subst (λ (t : List ℕ). IsOperandStop key t stop) is h

-- an error of the prefix notation says why the text is no query
pub refused_query : (key : Key) (text : List ℕ) (k : PqfErrorKind) (at : ℕ)
    → ((record { kind = k; at = at }) ≡ memory) ⊎ IsTextFault text (record { kind = k; at = at })
    → IsQueryStop key text (stop_of_kind key k at)
refused_query key text kinds.OpenQuote at h = (refl, text_fault text kinds.OpenQuote at (λ e. Prim.cc e) h)
refused_query key text kinds.Empty at h = (refl, text_fault text kinds.Empty at (λ e. Prim.cc e) h)
refused_query key text kinds.UnknownWord at h = (refl, text_fault text kinds.UnknownWord at (λ e. Prim.cc e) h)
refused_query key text kinds.MissingOperand at h = (refl, text_fault text kinds.MissingOperand at (λ e. Prim.cc e) h)
refused_query key text kinds.BadAttribute at h = (refl, text_fault text kinds.BadAttribute at (λ e. Prim.cc e) h)
refused_query key text kinds.UnknownSet at h = (refl, text_fault text kinds.UnknownSet at (λ e. Prim.cc e) h)
refused_query key text kinds.BadTermType at h = (refl, text_fault text kinds.BadTermType at (λ e. Prim.cc e) h)
refused_query key text kinds.BadNumber at h = (refl, text_fault text kinds.BadNumber at (λ e. Prim.cc e) h)
refused_query key text kinds.TooDeep at h = (refl, text_fault text kinds.TooDeep at (λ e. Prim.cc e) h)
refused_query key text kinds.Trailing at h = (refl, text_fault text kinds.Trailing at (λ e. Prim.cc e) h)
refused_query key text kinds.Memory at h = tt

-- ---- the texts of a catalogue

-- why the text of a term is no prefix
given_stop : (key : Key) (text : List ℕ) (stop : Stop) → IsPrefixStop key text stop
    → IsGivenPrefixStop key (Some text) stop
given_stop key text (stops.Fault f) h = h
given_stop key text stops.Memory h = tt

-- why a text that is given is no prefix
pub given_prefix_stop : (key : Key) (given : Option (List ℕ)) (text : List ℕ) (stop : Stop) → given ≡ Some text
    → IsPrefixStop key text stop → IsGivenPrefixStop key given stop
given_prefix_stop key given text stop is h =
    subst (λ (g : Option (List ℕ)). IsGivenPrefixStop key g stop) (sym is) (given_stop key text stop h)

-- why a term of a catalogue is no prefix is why its texts are not what they have to be
pub term_stop : (terms : Terms) (query : Option (List ℕ)) (key : Key) (stop : Stop)
    → IsGivenPrefixStop key (term_of key terms) stop → IsTextStop terms query stop
term_stop terms query key (stops.Fault f) h = of_term key h
term_stop terms query key stops.Memory h = tt

-- why a reading stops is passed on
pub passed_on : {A : Type 0} (P : Stop → Type 0) (e f : Stop) (r : Result A Stop) → r ≡ Err f → f ≡ e → P e
    → IfErr r P
passed_on P e f r is of h = rw (is, of) h
