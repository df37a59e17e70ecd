use Rattle.std.proofs.Common.{◌≡◌, ◌∙◌, ◌∷◌, rules}
use Rattle.std.proofs.lemmas.Result.{err_from_is_err_and}
use Rattle.zknow_records.specs.Records.{records_octets, left_out}
use Rattle.zmeta_devices.specs.Devices.{outputs}
use Rattle.zmeta_args.specs.Texts.{texts_of}
use Rattle.zmeta_offline.specs.Records.{extract}
use Rattle.zmeta_offline.proofs.NewsTheory.{since_refused, since_written}
use Rattle.zmeta_offline.proofs.news.news_files.Goals as goal

pub returns-in_err-news : goal.returns-in_err-news
returns-in_err-news g c =
    let p = err_from_is_err_and c.from_residual-in_err-news.result c.from_residual-in_err-news.ensures.1 in
    since_refused (g.F.Folder.octets c.args.files.now) c.args.earlier.now
    (c.args.saved.first.now ∷ texts_of c.args.saved.others.now) (extract c.args.wanted)
    (outputs g.W.Write.contents g.E.Write.contents c.args.output.now c.args.errors.now) c.in_err-news.field-0.0 p.0
    c.from_residual-in_err-news.result p.1 p.2 c.in_err-news.ensures

pub returns : goal.returns
returns g c =
    let oid = c.in_ok-syntax.syntax in
    let news = c.in_ok-news.news in
    let put : c.in_ok-octets.octets.items ≡ records_octets oid c.args.wanted.conflicts news = search rules in
    let which : c.in_ok-octets.left ≡ left_out oid c.args.wanted.conflicts news = search rules in
    since_written (g.F.Folder.octets c.args.files.now) c.args.earlier.now
    (c.args.saved.first.now ∷ texts_of c.args.saved.others.now) (extract c.args.wanted)
    (outputs g.W.Write.contents g.E.Write.contents c.args.output.now c.args.errors.now) news oid c.in_ok-news.status
    c.as_slice.result.now c.as_slice-2.result.now c.in_ok-octets.left
    (outputs g.W.Write.contents g.E.Write.contents c.put_records.new.output c.put_records.new.errors)
    c.in_ok-news.ensures c.in_ok-syntax.ensures (c.as_slice.ensures.value ∙ put) which
    (c.as_slice-2.ensures.value ∙ c.in_ok-lines.ensures) c.in_ok-put_records.ensures
