use Rattle.std.proofs.Common.{◌<◌, List, length, refl, subst, arith}
use Rattle.std.proofs.lemmas.Option.{slice_get_read}
use Rattle.zoom_clock.specs.declared.course.Course.{Course}
use Rattle.zoom_clock.specs.Turns.{IsFirstOpen}
use Rattle.zoom_clock.proofs.Turning.{at_once, all_over, has_turn, gets_turn}
use Rattle.zoom_clock.proofs.clock.Clock.take_turns.Goals as goal
use Rattle.zoom_clock.proofs.clock.Clock.take_turns.Goals.{After-first_open-self}

found : (c : After-first_open-self) → IsFirstOpen c.args.self.now.courses.items c.args.self.now.turn c.first_open-self.result
found c =
    subst (λ (l : List Course). IsFirstOpen l c.args.self.now.turn c.first_open-self.result) c.deref.ensures.value
    c.first_open-self.ensures

pub returns-then-not-self-clause-after : goal.returns-then-not-self-clause-after
returns-then-not-self-clause-after c =
    at_once c.args.at c.args.self.now _
    (record {
      found = found (goal.at.returns-then-not-self-clause-after c).After-first_open-self;
      courses = refl;
      wakes = refl;
      queue = refl;
      passed = refl;
      in_order = refl;
    })
    c.if-not-self.true

pub returns-then-self-len-clause-after : goal.returns-then-self-len-clause-after
returns-then-self-len-clause-after c =
    all_over c.args.at c.args.self.now _
    (record {
      found = found (goal.at.returns-then-self-len-clause-after c).After-first_open-self;
      courses = refl;
      wakes = refl;
      queue = refl;
      passed = refl;
      in_order = refl;
    })
    (let l = c.len.ensures in let n = c.args.self.now.courses.ok.0 in let t = c.if-self-len.true in omega arith)

pub returns-then-course-clause-after : goal.returns-then-course-clause-after
returns-then-course-clause-after c =
    let old = c.args.self.now in
    let lt : c.first_open-self.result < length old.courses.items =
    let l = c.len.ensures in let n = old.courses.ok.0 in let t = c.if-self-len.false in omega arith in
    has_turn c.args.at old _
    (record {
      found = found (goal.at.returns-then-course-clause-after c).After-first_open-self;
      courses = refl;
      wakes = refl;
      queue = refl;
      passed = refl;
      in_order = refl;
    })
    c.index-course.result.now
    (slice_get_read old.courses.items (length old.courses.items) c.first_open-self.result c.index-course.result.now refl lt
    c.index-course.ensures)
    c.if-course.true

pub returns-clause-after : goal.returns-clause-after
returns-clause-after c =
    let old = c.args.self.now in
    let lt : c.first_open-self.result < length old.courses.items =
    let l = c.len.ensures in let n = old.courses.ok.0 in let t = c.if-self-len.false in omega arith in
    gets_turn c.args.at old _
    (record {
      found = found (goal.at.returns-clause-after c).After-first_open-self;
      courses = refl;
      wakes = refl;
      queue = refl;
      passed = refl;
      in_order = refl;
    })
    c.index-course.result.now
    (slice_get_read old.courses.items (length old.courses.items) c.first_open-self.result c.index-course.result.now refl lt
    c.index-course.ensures)
    c.note.new.self c.if-course.false c.if-not-self.false c.in_ok-note.ensures.after
