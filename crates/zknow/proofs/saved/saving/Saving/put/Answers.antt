use Rattle.std.proofs.Common.{[], ◌++◌, inl, ⊎_elim, refl, sym, ap, ◌∙◌}
use Rattle.std.proofs.lemmas.Bool.{cases_lt}
use Rattle.zber.specs.Elements.{height}
use Rattle.zknow.proofs.SavedTheory.SavedParts.{encoding_is, framed_fits, deep_is, long_is}
use Rattle.zknow.proofs.saved.saving.Saving.put.Goals as goal

pub returns-in-Ok : goal.returns-in-Ok
returns-in-Ok g c =
    λ value is. (
      λ deep. let other = c.in-Ok.ensures.too_deep.1 (deep_is g.T.Tagged.place value c.args.node.now is deep) in cc,
      inl (record {
        long = refl;
        octets = c.in-Ok.ensures.ok ∙ ap (λ l. c.args.self.now.octets.items ++ l) (sym (encoding_is g.T.Tagged.place value c.args.node.now is));
        fits = framed_fits g.T.Tagged.place value c.args.node.now is (c.in-Ok.ensures.framed []);
        short = λ long. ⊎_elim
            (λ deep. let other = c.in-Ok.ensures.too_deep.1 deep in cc)
            (λ fine. let other = c.in-Ok.ensures.too_long.1 (fine, long_is g.T.Tagged.place value c.args.node.now is long) in cc)
            (cases_lt 64 (height c.args.node.now));
      }),
    )
