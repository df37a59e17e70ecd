use Rattle.std.proofs.Common.{◌∷◌}
use Rattle.zmeta_args.specs.Texts.{texts_of}
use Rattle.zmeta_devices.specs.Devices.{output_device}
use Rattle.zmeta_devices.specs.Files.{folder}
use Rattle.zmeta_offline.proofs.Savings.{unbegun_join, refused_join, saved_join}
use Rattle.zmeta_offline.proofs.join.join_saved.Goals as goal

pub returns-in-Err : goal.returns-in-Err
returns-in-Err g c =
    unbegun_join c.args.view (c.args.first.now ∷ texts_of c.args.others.now) c.args.saved.now
    (folder g.F.Folder.octets g.F.Folder.are_one g.F.Folder.steps c.args.files.now)
    (folder g.F.Folder.octets g.F.Folder.are_one g.F.Folder.steps c.begin_draft.new.files)
    (output_device g.W.Write.contents c.args.output.now) (output_device g.E.Write.contents c.args.errors.now)
    (output_device g.E.Write.contents c.end.new.errors) c.end.result c.in-Err.fault c.in-Err.ensures.begun.0
    c.in-Err.ensures.begun.1 c.end.ensures

pub returns-in-Err-load_all : goal.returns-in-Err-load_all
returns-in-Err-load_all g c =
    refused_join c.args.view (c.args.first.now ∷ texts_of c.args.others.now) c.args.saved.now
    (folder g.F.Folder.octets g.F.Folder.are_one g.F.Folder.steps c.args.files.now)
    (folder g.F.Folder.octets g.F.Folder.are_one g.F.Folder.steps c.begin_draft.new.files)
    (output_device g.W.Write.contents c.args.output.now) (output_device g.E.Write.contents c.args.errors.now)
    (output_device g.E.Write.contents c.end-in-Err-load_all.new.errors) c.end-in-Err-load_all.result
    c.in-Err-load_all.fault c.in-Ok.ensures.begun c.in-Err-load_all.ensures c.end-in-Err-load_all.ensures

pub returns : goal.returns
returns g c =
    saved_join c.args.view (c.args.first.now ∷ texts_of c.args.others.now) c.args.saved.now
    (folder g.F.Folder.octets g.F.Folder.are_one g.F.Folder.steps c.args.files.now)
    (folder g.F.Folder.octets g.F.Folder.are_one g.F.Folder.steps c.begin_draft.new.files)
    (output_device g.W.Write.contents c.args.output.now) (output_device g.E.Write.contents c.args.errors.now)
    (output_device g.E.Write.contents c.end-2.new.errors) c.end-2.result
    (folder g.F.Folder.octets g.F.Folder.are_one g.F.Folder.steps c.list_and_save-answer.new.files)
    (output_device g.W.Write.contents c.list_and_save-answer.new.output)
    (output_device g.E.Write.contents c.list_and_save-answer.new.errors) c.in-Ok-load_all.known
    c.list_and_save-answer.result c.in-Ok.ensures.begun c.in-Ok-load_all.ensures c.list_and_save-answer.ensures
    c.end-2.ensures
