use Rattle.std.proofs.Common.{arith}
use Rattle.std.proofs.lemmas.Bool.Decides.{nat_tests}
use Rattle.zmeta_catalogue_files.proofs.ErrorLines.{one_told, each_told}
use Rattle.zmeta_catalogue_files.proofs.listing.all_mistakes.Goals as goal

pub returns-then-is_empty : goal.returns-then-is_empty
returns-then-is_empty c =
    one_told c.args.octets.now c.in_ok-all.all.items c.push.new.self.items c.args.error c.in_ok-all.ensures.all
    (grind (arith, nat_tests)) c.in_ok-push.ensures.items

pub returns : goal.returns
returns c =
    each_told c.args.octets.now c.in_ok-all.all.items c.in_ok-all.ensures.all (grind (arith, nat_tests))
