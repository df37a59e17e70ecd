use Rattle.std.proofs.Common.{ℕ, ◌+◌, ◌-◌, List, Option, sym, subst}
use Rattle.std.proofs.lemmas.Result.{err_from_is_err_and}
use Rattle.zmeta_args.specs.Texts.{texts_of}
use Rattle.zmeta_offline.specs.Rows.{IsReader, IsReadFault, EndsBefore, IsUnknownTo, IsNextFault, HasRead}
use Rattle.zmeta_offline.proofs.Filling.{short_unknown, filled_unknown, next_fault, fault_to}
use Rattle.zmeta_offline.proofs.Keeping.{ok_on, err_as, filled, path_in}
use Rattle.zmeta_offline.proofs.Scanning.{if_err}
use Rattle.zmeta_offline.proofs.rows.Reader.read_next.Goals as goal
use Rattle.zmeta_offline.proofs.rows.Reader.read_next.Goals.{then-is_none+in_ok-fill, else-is_none}

pub returns-clause-ok : goal.returns-clause-ok
returns-clause-ok g c =
    let octets = g.F.Folder.octets c.args.files.now in
    let paths = texts_of c.args.self.now.paths.now in
    let mid = c.if-is_none.self in
    let fills : IsReader octets paths c.args.self.now → IsReader octets paths mid =
    elim c.if-is_none.branch [
      | then-is_none+in_ok-fill w ↦ subst (λ z. IsReader octets paths c.args.self.now → IsReader octets paths z)
          (sym w.self-is) w.in_ok-fill.ensures.ok
      | else-is_none w ↦ subst (λ z. IsReader octets paths c.args.self.now → IsReader octets paths z) (sym w.self-is)
          (λ h. h)
    ] in
    ok_on c.give.result
    ((o : List ℕ → Option (List ℕ)) (ps : List (List ℕ))
    → HasRead o ps c.args.wanted mid c.args.rows.now c.give.new.self c.give.new.rows)
    (HasRead octets paths c.args.wanted c.args.self.now c.args.rows.now c.give.new.self c.give.new.rows)
    (λ has. filled octets paths c.args.wanted c.args.self.now mid c.args.rows.now c.give.new.self c.give.new.rows fills
    (has octets paths))
    c.give.ensures.ok

pub returns-in_err-fill-clause-err : goal.returns-in_err-fill-clause-err
returns-in_err-fill-clause-err g c =
    let p = err_from_is_err_and c.from_residual.result c.from_residual.ensures.1 in
    let octets = g.F.Folder.octets c.args.files.now in
    let paths = texts_of c.args.self.now.paths.now in
    let w = c.args.wanted in
    let path = c.in-Some.path.now in
    let most = w.begin + (w.end - w.begin) in
    if_err c.from_residual.result _ p.0 c.in_err-fill.field-0.0 p.1 p.2
    (next_fault octets paths w c.args.self.now c.args.rows.now path c.in-Some.ensures.1
    (path_in c.args.self.now.paths.now w.file path c.in-Some.ensures.0 c.in-Some.ensures.1) c.in_err-fill.field-0.0
    (fault_to (EndsBefore (octets path) most) (IsUnknownTo octets paths w c.args.self.now c.args.rows.now) path
    c.in_err-fill.field-0.0
    (λ short. short_unknown octets paths w c.args.self.now c.args.rows.now
    (subst (λ (z : List ℕ). EndsBefore (octets z) most) c.in-Some.ensures.1 short)) c.in_err-fill.ensures.err))

pub returns-clause-err : goal.returns-clause-err
returns-clause-err g c =
    let octets = g.F.Folder.octets c.args.files.now in
    let paths = texts_of c.args.self.now.paths.now in
    let w = c.args.wanted in
    let path = c.in-Some.path.now in
    let mid = c.if-is_none.self in
    let fills : IsReader octets paths c.args.self.now → IsReader octets paths mid =
    elim c.if-is_none.branch [
      | then-is_none+in_ok-fill w ↦ subst (λ z. IsReader octets paths c.args.self.now → IsReader octets paths z)
          (sym w.self-is) w.in_ok-fill.ensures.ok
      | else-is_none w ↦ subst (λ z. IsReader octets paths c.args.self.now → IsReader octets paths z) (sym w.self-is)
          (λ h. h)
    ] in
    err_as c.give.result
    (λ f. (o : List ℕ → Option (List ℕ)) (ps : List (List ℕ))
    → IsReadFault (IsUnknownTo o ps w mid c.args.rows.now) path f)
    (IsNextFault octets paths w c.args.self.now c.args.rows.now)
    (λ f is. next_fault octets paths w c.args.self.now c.args.rows.now path c.in-Some.ensures.1
    (path_in c.args.self.now.paths.now w.file path c.in-Some.ensures.0 c.in-Some.ensures.1) f
    (fault_to (IsUnknownTo octets paths w mid c.args.rows.now)
    (IsUnknownTo octets paths w c.args.self.now c.args.rows.now) path f
    (filled_unknown octets paths w c.args.self.now mid c.args.rows.now fills) (is octets paths)))
    c.give.ensures.err
