use Rattle.zquery.proofs.NotationTheory.ApartLemmas.{apart_keys, more_keys}
use Rattle.zquery.proofs.notation.printable.put_apart.Goals as goal

pub returns-clause-apart : goal.returns-clause-apart
returns-clause-apart c = λ others keys.
    apart_keys c.set_and_type.result c.args.attr.now c.set_and_type.ensures.set c.set_and_type.ensures.kind
    c.args.seen.now others c.in_ok-insert.field-0 c.in_ok-insert.ensures.added keys

pub returns-clause-keys : goal.returns-clause-keys
returns-clause-keys c = λ others keys.
    more_keys c.set_and_type.result c.args.attr.now c.set_and_type.ensures.set c.set_and_type.ensures.kind
    c.args.seen.now c.insert.new.self others c.in_ok-insert.ensures.updates.0 keys
