use Rattle.std.proofs.Common.{◌≡◌, refl, ◌∙◌, ap, sym, ◌+◌, ◌++◌, ◌∷◌, [], Bool, true, false, not, drop, take, append_assoc}
use Rattle.std.proofs.lemmas.Bool.{true≢false}
use Rattle.std.proofs.lemmas.List.{drop_more, take_more}
use Rattle.std.specs.BTreeSet.{contains}
use Rattle.std.specs.Cmp.Lexicographic.{slice_cmp}
use Rattle.std.specs.List.{flat_map}
use Rattle.std.specs.Ordering.{nat_cmp}
use Rattle.ztarget.specs.Keeping.{databases_of}
use Rattle.ztarget.specs.Searching.{called, each_once}
use Rattle.ztarget.proofs.OnceNamed.{membership_more, new_name, old_name}
use Rattle.ztarget.proofs.searched_databases.searched.Goals as goal
use Rattle.ztarget.proofs.searched_databases.searched.Goals.{then-branch+in_ok-put_called, else-branch}

was_new : (added told : Bool) → added ≡ not told → added ≡ true → told ≡ false
was_new added true h k = absurd (true≢false (sym k ∙ h))
was_new added false h k = refl

was_old : (added told : Bool) → added ≡ not told → added ≡ false → told ≡ true
was_old added true h k = refl
was_old added false h k = absurd (true≢false (sym h ∙ k))

pub loop-name-preserved : goal.loop-name-preserved
loop-name-preserved c =
    let i = c.loop-name.name-index in
    let names = c.args.names.now in
    let name = c.name-item.result in
    let ds = c.args.databases.now in
    let before = take i names in
    let after = take (i + 1) names in
    let left : drop i names ≡ name ∷ drop (i + 1) names = rw (← c.name-item.is) at (drop_more names i name c.loop-name-test.true) in
    let upto : after ≡ before ++ name ∷ [] = rw (← c.name-item.is) at (take_more names i name c.loop-name-test.true) in
    let puts = c.in_ok-put_name.ensures.updates in
    let added = c.in_ok-put_name.ensures.added in
    let told = c.loop-name.invariant.told name in
    let rest = flat_map (called ds) (each_once after (drop (i + 1) names)) in
    record {
      told = λ q. membership_more before after name q (contains (slice_cmp nat_cmp) c.loop-name.named q) (contains (slice_cmp nat_cmp) c.put_name.new.named q) upto (c.loop-name.invariant.told q) (puts.0 q);
      found = elim c.if-branch.branch [
        | then-branch+in_ok-put_called w ↦
            rw w.searched-is
            (ap (λ l. l ++ rest) w.in_ok-put_called.ensures.called
            ∙ append_assoc (databases_of c.loop-name.searched.items) (called ds name) rest
            ∙ ap (λ l. databases_of c.loop-name.searched.items ++ l) (sym (new_name ds before (drop i names) after (drop (i + 1) names) name left upto (sym told ∙ was_new _ _ added w.if-branch.true)))
            ∙ c.loop-name.invariant.found)
        | else-branch w ↦
            rw w.searched-is
            (ap (λ l. databases_of c.loop-name.searched.items ++ l) (sym (old_name ds before (drop i names) after (drop (i + 1) names) name left upto (sym told ∙ was_old _ _ added w.if-branch.false)))
            ∙ c.loop-name.invariant.found)
      ];
      numbered = elim c.if-branch.branch [
        | then-branch+in_ok-put_called w ↦ rw w.searched-is (w.in_ok-put_called.ensures.numbered c.loop-name.invariant.numbered)
        | else-branch w ↦ rw w.searched-is c.loop-name.invariant.numbered
      ];
    }
