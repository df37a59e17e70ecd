use Rattle.std.proofs.Common.{◌≡◌, arith, sym, ◌∙◌}
use Rattle.zapdu.specs.Productions.Diagnostics.{diag_rec}
use Rattle.zknow.specs.Encodings.{encoding_cmp}
use Rattle.zknow.proofs.OneEncoding.{one_encoding}
use Rattle.zknow.proofs.tables.encoded_diag.EncodedDiagRanked.compare.Goals as goal

pub returns-clause-exact : goal.returns-clause-exact
returns-clause-exact c =
    let order : c.cmp.result ≡ encoding_cmp diag_rec c.self.inside.entry.value.diag c.other.inside.entry.value.diag =
    grind (arith, c.cmp.ensures, c.deref.ensures, c.deref-2.ensures, c.self.invariant.octets, c.other.invariant.octets) in
    λ tied. rw (← c.self.view_is, ← c.other.view_is)
    (one_encoding diag_rec c.self.inside.entry.value.diag c.other.inside.entry.value.diag c.self.invariant.spellable c.other.invariant.spellable c.self.invariant.lawful c.other.invariant.lawful (sym order ∙ tied))
