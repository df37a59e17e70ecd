use Rattle.std.proofs.Common.{◌∙◌, refl, ap, List}
use Rattle.zmeta_catalogues.specs.declared.fault.Key.{Key}
use Rattle.zmeta_catalogues.specs.Words.{nearest_of}
use Rattle.zmeta_catalogues.proofs.Nearest.{begun, one_nearer, one_farther, all_keys}
use Rattle.zmeta_catalogues.proofs.words.nearest.Goals as goal
use Rattle.zmeta_catalogues.proofs.words.nearest.Goals.{then-letters-parted, else-letters-parted}

pub keys-init : goal.keys-init
keys-init c = refl

pub keys-preserved : goal.keys-preserved
keys-preserved c =
    let at = c.keys in
    let join = c.if-letters-parted in
    let keys = c.keys_of-keys.result.now in
    elim c.if-letters-parted.branch [
      | then-letters-parted w ↦
          one_nearer c.args.word.now at.near join.near at.parted join.parted c.in_ok-letters.letters keys
          at.key-index _
          (nearest_of c.args.word.now begun keys) c.keys-test.true c.in_ok-letters.ensures w.if-letters-parted.true
          w.near-is w.parted-is at.invariant
      | else-letters-parted w ↦
          one_farther c.args.word.now at.near join.near at.parted join.parted c.in_ok-letters.letters keys
          at.key-index _
          (nearest_of c.args.word.now begun keys) c.keys-test.true c.in_ok-letters.ensures w.if-letters-parted.false
          w.near-is w.parted-is at.invariant
    ]

pub returns : goal.returns
returns c =
    all_keys c.args.word.now c.keys.near c.keys.parted c.keys_of-keys.result.now c.keys.key-index c.keys-test.false
    c.keys.invariant
    ∙ ap (λ (keys : List Key). (nearest_of c.args.word.now begun keys).key) c.keys_of-keys.ensures
