-- A text stands for one query at most and has one error at most.
use Rattle.std.proofs.Common.{◌≡◌, sym, ◌∙◌, ap, subst, ℕ, ◌≤◌, List, length, Option, Some, None, inl, inr}
use Rattle.zquery.specs.declared.notation.token.Token.{Token}
use Rattle.zquery.specs.declared.notation.error.PqfError.{PqfError}
use Rattle.zquery.specs.declared.notation.error.PqfErrorKind.{PqfErrorKind}
use Rattle.zquery_rpn.specs.Trees.{RpnQuery, height}
use Rattle.zquery.specs.Notation.Grammar.{IsQuery}
use Rattle.zquery.specs.Notation.Table.{tokens_fault}
use Rattle.zquery.specs.Notation.Texts.{IsText, IsTextFault}
use Rattle.zquery.specs.Notation.Laws.{OneLexing, OneQueryOrFault}
use Rattle.zquery.proofs.NotationTheory.OneLexing.{one-list, one-open-quote, tokens-or-open}
use Rattle.zquery.proofs.NotationTheory.Unique.{one-query}
use Rattle.zquery.proofs.NotationTheory.Filling.{accepted}

pub one-lexing : OneLexing
one-lexing = record { one_list = one-list; one_open = one-open-quote; either = tokens-or-open }

query-once : (text : List ℕ) (q r : RpnQuery) → IsText text q → IsText text r → q ≡ r
query-once text q r (ts, a, i) (us, b, j) = one-query us q r (subst (λ (z : List Token). IsQuery z q) (one-list text ts us a b) i) j

same-error : (e f : PqfError) → e.at ≡ f.at → e.kind ≡ f.kind → e ≡ f
same-error e f a k = ap (λ (n : ℕ). record e { at = n }) a ∙ ap (λ (x : PqfErrorKind). record f { kind = x }) k

some-is : (e f : PqfError) (o : Option PqfError) → o ≡ Some e → o ≡ Some f → e ≡ f
some-is e f o h k = cc

fault_left-once : (text : List ℕ) (e f : PqfError) → IsTextFault text e → IsTextFault text f → e ≡ f
fault_left-once text e f (inl (k, o)) (inl (l, p)) = same-error e f (one-open-quote text e.at f.at o p) (k ∙ sym l)
fault_left-once text e f (inl (k, o)) (inr (us, b, r)) = absurd (tokens-or-open text us e.at b o)
fault_left-once text e f (inr (ts, a, r)) (inl (l, p)) = absurd (tokens-or-open text ts f.at a p)
fault_left-once text e f (inr (ts, a, r)) (inr (us, b, s)) = some-is e f (tokens_fault (length text) us) (ap (tokens_fault (length text)) (sym (one-list text ts us a b)) ∙ r) s

none-some : (e : PqfError) (o : Option PqfError) → o ≡ None → o ≡ Some e → ⊥
none-some e o h k = cc

query-or-fault_left : (text : List ℕ) (q : RpnQuery) (e : PqfError) → IsText text q → height q.root ≤ 32 → IsTextFault text e → ⊥
query-or-fault_left text q e (ts, a, i) h (inl (k, o)) = tokens-or-open text ts e.at a o
query-or-fault_left text q e (ts, a, i) h (inr (us, b, r)) =
    none-some e (tokens_fault (length text) us) (accepted (length text) us q (subst (λ (z : List Token). IsQuery z q) (one-list text ts us a b) i) h) r

pub one-answer : OneQueryOrFault
one-answer = record { one_query = query-once; one_fault = fault_left-once; either = query-or-fault_left }
