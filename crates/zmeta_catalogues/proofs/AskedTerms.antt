-- Terms of a search, and why they are no query.
use Rattle.std.proofs.Common.{◌≡◌, ◌∙◌, refl, sym, subst, ℕ, List, [], ◌∷◌, Some, ◌⊎◌, inl, inr}
use Rattle.zquery.specs.Notation.Faults.{memory}
use Rattle.zquery.specs.Notation.Texts.{IsTextFault}
use Rattle.zquery.specs.declared.notation.error.PqfErrorKind.{PqfErrorKind}
use Rattle.zquery.specs.declared.notation.error.PqfErrorKind.TheVariants as kinds
use Rattle.zmeta_catalogues.specs.declared.catalogue.Catalogue.{Catalogue}
use Rattle.zmeta_catalogues.specs.declared.fault.Key.{Key}
use Rattle.zmeta_catalogues.specs.declared.fault.Stop.{Stop}
use Rattle.zmeta_catalogues.specs.declared.fault.Stop.TheVariants as stops
use Rattle.zmeta_catalogues.specs.declared.search.Term.{Term}
use Rattle.zmeta_catalogues.specs.declared.search.AskError.{AskError}
use Rattle.zmeta_catalogues.specs.declared.search.AskError.TheVariants as errors
use Rattle.zmeta_catalogues.specs.AskErrors.{given_error_of, IsPrefixError, IsTermError, HasTermError, IsTermsError, IsTermsQueryError, IsParsedError, IsGivenError}
use Rattle.zmeta_catalogues.specs.Charsets.{octets_in}
use Rattle.zmeta_catalogues.specs.Operands.{IsPrefixStop}
use Rattle.zmeta_catalogues.specs.Terms.{key_of, prefix_for}
use Rattle.zmeta_catalogues.proofs.Prefixes.{text_fault}

-- an error of the first term is one of the terms
pub first_term : (c : Catalogue) (t : Term) (ts : List Term) (e : AskError) → IsTermError c t e
    → IsTermsError c (t ∷ ts) e
first_term c t ts (errors.NoSearch catalogue) h = inl h
first_term c t ts errors.TooManyTerms h = inl h
first_term c t ts (errors.BlankTerm access) h = inl h
first_term c t ts (errors.TermCharset catalogue access) h = inl h
first_term c t ts (errors.QueryCharset catalogue) h = inl h
first_term c t ts (errors.Query kind at) h = inl h
first_term c t ts (errors.Setting catalogue fault) h = inl h
first_term c t ts errors.Records h = inl h
first_term c t ts errors.Syntax h = inl h
first_term c t ts errors.Memory h = tt

-- an error of later terms is one of the terms
pub later_term : (c : Catalogue) (t : Term) (ts : List Term) (e : AskError) → IsTermsError c ts e
    → IsTermsError c (t ∷ ts) e
later_term c t ts (errors.NoSearch catalogue) h = inr h
later_term c t ts errors.TooManyTerms h = inr h
later_term c t ts (errors.BlankTerm access) h = inr h
later_term c t ts (errors.TermCharset catalogue access) h = inr h
later_term c t ts (errors.QueryCharset catalogue) h = inr h
later_term c t ts (errors.Query kind at) h = inr h
later_term c t ts (errors.Setting catalogue fault) h = inr h
later_term c t ts errors.Records h = inr h
later_term c t ts errors.Syntax h = inr h
later_term c t ts errors.Memory h = tt

-- an error of a term is none of these
pub no_term : (c : Catalogue) (ts : List Term) (e : AskError) → ((t : Term) → IsTermError c t e → ⊥)
    → HasTermError c ts e → ⊥
no_term c [] e never h = h
no_term c (t ∷ ts) e never (inl h) = never t h
no_term c (t ∷ ts) e never (inr h) = no_term c ts e never h

-- an error of terms is one of their query
pub terms_error : (c : Catalogue) (ts : List Term) (e : AskError) → IsTermsError c ts e → IsTermsQueryError c ts e
terms_error c ts (errors.NoSearch catalogue) h = absurd (no_term c ts (errors.NoSearch catalogue) (λ t x. x) h)
terms_error c ts errors.TooManyTerms h = absurd (no_term c ts errors.TooManyTerms (λ t x. x) h)
terms_error c ts (errors.BlankTerm access) h = h
terms_error c ts (errors.TermCharset catalogue access) h = h
terms_error c ts (errors.QueryCharset catalogue) h = h
terms_error c ts (errors.Query kind at) h = h
terms_error c ts (errors.Setting catalogue fault) h = h
terms_error c ts errors.Records h = h
terms_error c ts errors.Syntax h = h
terms_error c ts errors.Memory h = tt

-- a catalogue's prefix that is none, of a term
of_stop : (c : Catalogue) (t : Term) (stop : Stop) (e : AskError)
    → IsPrefixStop (key_of t.access) (prefix_for c t.access) stop → IsPrefixError c.name stop e → IsTermError c t e
of_stop c t (stops.Fault f) (errors.NoSearch catalogue) h p = absurd p
of_stop c t (stops.Fault f) errors.TooManyTerms h p = absurd p
of_stop c t (stops.Fault f) (errors.BlankTerm access) h p = absurd p
of_stop c t (stops.Fault f) (errors.TermCharset catalogue access) h p = absurd p
of_stop c t (stops.Fault f) (errors.QueryCharset catalogue) h p = absurd p
of_stop c t (stops.Fault f) (errors.Query kind at) h p = absurd p
of_stop c t (stops.Fault f) (errors.Setting catalogue g) h p = (p.0, p.1 ∙ h.0, h.1)
of_stop c t (stops.Fault f) errors.Records h p = absurd p
of_stop c t (stops.Fault f) errors.Syntax h p = absurd p
of_stop c t (stops.Fault f) errors.Memory h p = tt
of_stop c t stops.Memory (errors.NoSearch catalogue) h p = absurd p
of_stop c t stops.Memory errors.TooManyTerms h p = absurd p
of_stop c t stops.Memory (errors.BlankTerm access) h p = absurd p
of_stop c t stops.Memory (errors.TermCharset catalogue access) h p = absurd p
of_stop c t stops.Memory (errors.QueryCharset catalogue) h p = absurd p
of_stop c t stops.Memory (errors.Query kind at) h p = absurd p
of_stop c t stops.Memory (errors.Setting catalogue g) h p = absurd p
of_stop c t stops.Memory errors.Records h p = absurd p
of_stop c t stops.Memory errors.Syntax h p = absurd p
of_stop c t stops.Memory errors.Memory h p = tt

-- a catalogue's prefix for this key that is none is an error of the term
pub prefix_term_error : (c : Catalogue) (t : Term) (key : Key) (prefix : List ℕ) (stop : Stop) (e : AskError)
    → key ≡ key_of t.access → prefix ≡ prefix_for c t.access → IsPrefixStop key prefix stop
    → IsPrefixError c.name stop e → IsTermError c t e
prefix_term_error c t key prefix stop e is text h p =
    of_stop c t stop e
    (subst (λ (x : List ℕ). IsPrefixStop (key_of t.access) x stop) text
    (subst (λ (k : Key). IsPrefixStop k prefix stop) is h)) p

-- an error of the prefix notation says why a text is no query of the search
pub refused_given : (text : List ℕ) (k : PqfErrorKind) (at : ℕ)
    → ((record { kind = k; at = at }) ≡ memory) ⊎ IsTextFault text (record { kind = k; at = at })
    → IsParsedError text (given_error_of k at)
refused_given text kinds.OpenQuote at h = text_fault text kinds.OpenQuote at (λ e. Prim.cc e) h
refused_given text kinds.Empty at h = text_fault text kinds.Empty at (λ e. Prim.cc e) h
refused_given text kinds.UnknownWord at h = text_fault text kinds.UnknownWord at (λ e. Prim.cc e) h
refused_given text kinds.MissingOperand at h = text_fault text kinds.MissingOperand at (λ e. Prim.cc e) h
refused_given text kinds.BadAttribute at h = text_fault text kinds.BadAttribute at (λ e. Prim.cc e) h
refused_given text kinds.UnknownSet at h = text_fault text kinds.UnknownSet at (λ e. Prim.cc e) h
refused_given text kinds.BadTermType at h = text_fault text kinds.BadTermType at (λ e. Prim.cc e) h
refused_given text kinds.BadNumber at h = text_fault text kinds.BadNumber at (λ e. Prim.cc e) h
refused_given text kinds.TooDeep at h = text_fault text kinds.TooDeep at (λ e. Prim.cc e) h
refused_given text kinds.Trailing at h = text_fault text kinds.Trailing at (λ e. Prim.cc e) h
refused_given text kinds.Memory at h = tt

-- octets that are no query say why the search has none
pub parsed_error : (c : Catalogue) (text octets : List ℕ) (e : AskError)
    → octets_in c.settings.charset text ≡ Some octets → IsParsedError octets e → IsGivenError c text e
parsed_error c text octets (errors.NoSearch catalogue) is h = absurd h
parsed_error c text octets errors.TooManyTerms is h = absurd h
parsed_error c text octets (errors.BlankTerm access) is h = absurd h
parsed_error c text octets (errors.TermCharset catalogue access) is h = absurd h
parsed_error c text octets (errors.QueryCharset catalogue) is h = absurd h
parsed_error c text octets (errors.Query kind at) is h = (octets, is, h)
parsed_error c text octets (errors.Setting catalogue fault) is h = absurd h
parsed_error c text octets errors.Records is h = absurd h
parsed_error c text octets errors.Syntax is h = absurd h
parsed_error c text octets errors.Memory is h = tt
