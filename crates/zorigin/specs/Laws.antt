-- What is true of each log, and the result of an admitted call (Z39.50-2003, 3.2 and 3.4).
use Rattle.std.specs.Prelude.{◌≡◌, ℕ, nat_eq, true, map, Some, Ok, Contains}
use Rattle.std.specs.List.{IsDistinct}
use Rattle.zapdu.specs.declared.apdu.Apdu.{Apdu}
use Rattle.zapdu.specs.declared.apdu.Apdu.TheVariants as apdus
use Rattle.zorigin.specs.declared.answer.What.TheVariants as what
use Rattle.zorigin.specs.declared.answer.Asked.{Asked}
use Rattle.zorigin.specs.declared.answer.Answer.{Answer}
use Rattle.zorigin.specs.declared.state.Searched.{Searched}
use Rattle.zorigin.specs.Standings.{Call, Close, Standing}
use Rattle.zorigin.specs.Answers.{has_valid_ranges}
use Rattle.zorigin.specs.Sending.{request_of, sent_of}
use Rattle.zorigin.specs.Calls.{call_result}
use Rattle.zorigin.specs.Log.{Past, asked, op_of, searches_in}

-- the number of the set that the search makes
abbrev pub searched_set : Searched → ℕ
searched_set searched = searched.set

-- the number of the operation that the reply is to
abbrev pub answered_op : Answer → ℕ
answered_op answer = answer.asked.op

-- a response to Init that accepts the association
abbrev pub IsAcceptance : Apdu → Type 0
IsAcceptance (apdus.InitResponse v) = v.result ≡ true
IsAcceptance _ = ⊥

-- the association was accepted
pub record HasAssociation (p : Past) : Type 0 where
  pub answer : Answer
  pub accepted : Contains p.accepted answer
  pub init : answer.asked.what ≡ what.Init
  pub accepts : IsAcceptance answer.reply

-- what is true of the past of each log
pub record IsOrderly (p : Past) : Type 0 where
  -- no two operations have the same number, and no two searches the same set
  pub operations : IsDistinct nat_eq (map op_of (asked p))
  pub sets : IsDistinct nat_eq (map searched_set (searches_in p))
  -- an accepted reply is to an admitted operation, and no two are to the same one
  pub known : (answer : Answer) → Contains p.accepted answer → Contains (asked p) answer.asked
  pub once : IsDistinct nat_eq (map answered_op p.accepted)
  -- the ranges of each Present can be asked for
  pub positions : (q : Asked) → Contains (asked p) q → has_valid_ranges q.what ≡ true
  -- Close was called only once the association was accepted
  pub closing : Contains p.admitted Close → HasAssociation p

-- the call has a request, and its result is that request
pub record HasRequest (s : Standing) (call : Call) : Type 0 where
  pub request : Apdu
  pub made : request_of s call ≡ Some request
  pub returned : call_result s call ≡ Ok (sent_of request)
