-- The table of replies: which are refused, row by row, and the result of one that is accepted (Z39.50-2003, 3.4).
use Rattle.std.specs.Prelude.{ℕ, nat_eq, if◌then◌else◌, List, [], ◌∷◌, Option, Some, None, Result, Ok, Err}
use Rattle.std.specs.Map.{lookup}
use Rattle.zapdu.specs.declared.apdu.Apdu.{Apdu}
use Rattle.zapdu.specs.declared.apdu.Apdu.TheVariants as apdus
use Rattle.zorigin.specs.declared.answer.Asked.{Asked}
use Rattle.zorigin.specs.declared.answer.Answer.{Answer}
use Rattle.zorigin.specs.declared.answer.Taken.{Taken}
use Rattle.zorigin.specs.declared.answer.Taken.TheVariants as taken
use Rattle.zorigin.specs.declared.refusal.Refused.{Refused}
use Rattle.zorigin.specs.declared.refusal.Refused.TheVariants as refused
use Rattle.zorigin.specs.References.{operation_number}
use Rattle.zorigin.specs.Standings.{Standing, is_open}
use Rattle.zorigin.specs.Fitting.{fault_of}

-- the only outstanding operation, if there is exactly one
abbrev pub only_of : List (ℕ × Asked) → Option Asked
only_of (e ∷ []) = Some e.1
only_of _ = None

-- the outstanding operation with the number in a reference id, if the id has one and an operation has it
abbrev pub numbered_as : List (ℕ × Asked) → Option ℕ → Option Asked
numbered_as outstanding None = None
numbered_as outstanding (Some op) = lookup (nat_eq op) outstanding

-- the outstanding operation that a reference id names; an absent one names the only operation, if concurrent operations
-- are not in force
abbrev pub named : Standing → Option (List ℕ) → Option Asked
named s (Some id) = numbered_as s.outstanding (operation_number id)
named s None = if s.force.concurrent then None else only_of s.outstanding

-- the result for an accepted reply: it accepts the association, rejects it, or is to another operation
abbrev pub taken_by : Answer → Apdu → Taken
taken_by answer (apdus.InitResponse v) = if v.result then taken.Opened answer else taken.Rejected answer
taken_by answer _ = taken.Answered answer

-- the result for an accepted answer, by its reply: Opened, Rejected or Answered
abbrev pub taken_as : Answer → Taken
taken_as answer = taken_by answer answer.reply

-- the verdict on a reply, by its fault
abbrev pub judged : Answer → Option Refused → Result Taken Refused
judged answer (Some reason) = Err reason
judged answer None = Ok (taken_as answer)

-- the verdict on a reply to an operation, if it names one
abbrev pub against : Option Asked → Apdu → Result Taken Refused
against None reply = Err refused.UnknownReference
against (Some asked) reply = judged (record { asked = asked; reply = reply }) (fault_of asked.what reply)

-- the verdict while replies are taken: a reply is judged against the operation that it names, a Close is accepted
abbrev pub open_verdict : Standing → Apdu → Result Taken Refused
open_verdict s (apdus.InitResponse v) = against (named s v.reference_id) (apdus.InitResponse v)
open_verdict s (apdus.SearchResponse v) = against (named s v.reference_id) (apdus.SearchResponse v)
open_verdict s (apdus.PresentResponse v) = against (named s v.reference_id) (apdus.PresentResponse v)
open_verdict s (apdus.Close v) = Ok taken.Closed
open_verdict s _ = Err refused.WrongKind

-- the verdict on an APDU, which is the result of a take
unfoldable pub verdict : Standing → Apdu → Result Taken Refused
verdict s reply = if is_open s.state then open_verdict s reply else Err refused.WrongState

-- the verdict accepts a reply, so the result has an answer
abbrev pub HasAnswer : Result Taken Refused → Type 0
HasAnswer (Ok taken.Closed) = ⊥
HasAnswer (Ok taken) = Unit {0}
HasAnswer (Err reason) = ⊥
