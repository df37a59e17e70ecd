use Rattle.std.proofs.Common.{sym, ap, ◌∙◌, ◌≡◌, ◌++◌, subst}
use Rattle.zber.specs.Scans.{IsScanned}
use Rattle.zber.specs.Shown.{HasFault}
use Rattle.zber.specs.Unfinished.{IsUnfinished}
use Rattle.zber.proofs.ScanMoves.{on_err}
use Rattle.zber.proofs.FeedLemmas.{empty_is, fed_octets, fed_of, is_whole, cut_fed}
use Rattle.zber.proofs.framer.find.Goals as goal

pub returns-in_err-scan-clause-err : goal.returns-in_err-scan-clause-err
returns-in_err-scan-clause-err c =
    let m = empty_is c.args.message.now (sym c.if-not-is_empty.false ∙ c.is_empty.ensures) in
    let o : c.as_slice.result.now ≡ c.args.octets.now.items = c.as_slice.ensures in
    on_err c.from_residual.result _ (λ limit f. fed_of (subst (λ z. IsScanned limit z c.scan.new.self) o (c.in_err-scan.ensures.err limit (subst (λ z. IsScanned limit z c.args.scan.now) (sym o) (fed_octets f m)))) m)

pub freeze_to-requires : goal.freeze_to-requires
freeze_to-requires c =
    let m = empty_is c.args.message.now (sym c.if-not-is_empty.false ∙ c.is_empty.ensures) in
    let o : c.as_slice.result.now ≡ c.args.octets.now.items = c.as_slice.ensures in
    let l = c.requires.fed.0 in
    let f = rw c.in-Message.is at (c.in_ok-scan.ensures.ok l (subst (λ z. IsScanned l z c.args.scan.now) (sym o) (fed_octets c.requires.fed.1 m))) in
    (is_whole (subst (λ z. IsScanned l z c.scan.new.self) o f.0) f.1).1.within

pub returns-in_err-message-in-Message-clause-err : goal.returns-in_err-message-in-Message-clause-err
returns-in_err-message-in-Message-clause-err c =
    let m = empty_is c.args.message.now (sym c.if-not-is_empty.false ∙ c.is_empty.ensures) in
    let o : c.as_slice.result.now ≡ c.args.octets.now.items = c.as_slice.ensures in
    on_err c.from_residual-in_err-message-in-Message.result _ (λ limit g.
    (let f = rw c.in-Message.is at (c.in_ok-scan.ensures.ok limit (subst (λ z. IsScanned limit z c.args.scan.now) (sym o) (fed_octets g m))) in
    fed_of (subst (λ z. IsScanned limit z c.scan.new.self) (o ∙ sym (ap (λ b. b.items) c.in_err-message-in-Message.ensures.err)) f.0) m))

pub returns-in_ok-message-in-Message-clause-ok : goal.returns-in_ok-message-in-Message-clause-ok
returns-in_ok-message-in-Message-clause-ok c = λ limit g.
    let m = empty_is c.args.message.now (sym c.if-not-is_empty.false ∙ c.is_empty.ensures) in
    let o : c.as_slice.result.now ≡ c.args.octets.now.items = c.as_slice.ensures in
    let f = rw c.in-Message.is at (c.in_ok-scan.ensures.ok limit (subst (λ z. IsScanned limit z c.args.scan.now) (sym o) (fed_octets g m))) in
    cut_fed c.args.octets.now.items (subst (λ z. IsScanned limit z c.scan.new.self) o f.0) f.1 c.in_ok-message-in-Message.ensures.front c.in_ok-message-in-Message.ensures.rest.0

pub returns-in-Front-clause-ok : goal.returns-in-Front-clause-ok
returns-in-Front-clause-ok c = λ limit g.
    let m = empty_is c.args.message.now (sym c.if-not-is_empty.false ∙ c.is_empty.ensures) in
    let o : c.as_slice.result.now ≡ c.args.octets.now.items = c.as_slice.ensures in
    let f = rw c.in-Front.is at (c.in_ok-scan.ensures.ok limit (subst (λ z. IsScanned limit z c.args.scan.now) (sym o) (fed_octets g m))) in
    (fed_of (subst (λ z. IsScanned limit z c.scan.new.self) o f.0) m, subst (λ z. IsUnfinished limit (z ++ c.args.octets.now.items)) (sym m) (subst (IsUnfinished limit) o f.1))

pub returns-in-Fault-clause-ok : goal.returns-in-Fault-clause-ok
returns-in-Fault-clause-ok c = λ limit g.
    let m = empty_is c.args.message.now (sym c.if-not-is_empty.false ∙ c.is_empty.ensures) in
    let o : c.as_slice.result.now ≡ c.args.octets.now.items = c.as_slice.ensures in
    let f = rw c.in-Fault.is at (c.in_ok-scan.ensures.ok limit (subst (λ z. IsScanned limit z c.args.scan.now) (sym o) (fed_octets g m))) in
    subst (λ z. HasFault limit (z ++ c.args.octets.now.items) c.in-Fault.kind c.scan.new.self.at) (sym m) (subst (λ z. HasFault limit z c.in-Fault.kind c.scan.new.self.at) o f)
