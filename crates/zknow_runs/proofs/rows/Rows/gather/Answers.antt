use Rattle.std.proofs.Common.{◌≡◌, ◌+◌, ℤ, Some, ap, subst, ◌∙◌, rules, to_z, of_z, w64}
use Rattle.zknow_runs.specs.RowSteps.{rest_of, HasTurned}
use Rattle.zknow_runs.proofs.rows.Rows.gather.Goals as goal

pub returns : goal.returns
returns c =
    let back : to_z w64 (of_z w64 c.args.position) ≡ c.args.position = search rules in
    let same : c.args.position ≡ c.args.next.run.position = search rules in
    let begin : c.in-Some.begin ≡ c.args.next.run.begin + c.args.size = search rules in
    record {
      target = c.args.target;
      place = c.requires.place ∙ ap (λ (z : ℤ). Some (c.args.target, z)) same;
      taken = search rules;
      within = search rules;
      mid = c.turn_to.new.self;
      turned = subst (λ (z : ℤ). HasTurned c.args.self.now z c.turn_to.new.self) (back ∙ same) c.in_ok-turn_to.ensures;
      facts = c.in_ok-add.ensures.ok;
      lawful = c.lawful.ensures;
      is = ap (λ z. record c.turn_to.new.self { gathered = c.add.new.self; next = z })
          (c.rest_of-self.ensures ∙ ap (rest_of c.args.next) begin);
    }
