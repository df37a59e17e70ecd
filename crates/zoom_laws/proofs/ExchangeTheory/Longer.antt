-- The requests of a longer log, and the replies that are owed to them.
use Rattle.std.proofs.Common.{◌≡◌, List, [], ◌∷◌, ◌++◌, reverse, sym, ap, subst, ◌∙◌, append_assoc, append-nil}
use Rattle.std.specs.Prelude.{Contains}
use Rattle.std.proofs.lemmas.List.{reverse-append}
use Rattle.std.proofs.lemmas.List.Elements.{Contains-append_left}
use Rattle.zapdu.specs.declared.apdu.Apdu.{Apdu}
use Rattle.zorigin.specs.declared.settings.Settings.{Settings}
use Rattle.zorigin.specs.Calls.{refusal}
use Rattle.zorigin.specs.Replies.{verdict}
use Rattle.zorigin.specs.Log.{Log, Made, Got, past, standing}
use Rattle.zoom_pool.specs.Hosts.{replies_to}
use Rattle.zoom_laws.specs.Accord.{requests}
use Rattle.zoom_laws.proofs.AccordTheory.Requests.{same_verdict}
use Rattle.zoom_laws.specs.Exchange.{LongerLaw}
use Rattle.zoom_laws.proofs.ExchangeTheory.Replies.{replies_more}
use Rattle.zoom_laws.proofs.ExchangeTheory.Steps.{called}

-- later requests are sent behind earlier ones
sent_more : (settings : Settings) (more log : Log) → (later : List Apdu)
    × ((past settings (more ++ log)).sent ≡ (past settings log).sent ++ later)
sent_more settings [] log = ([], sym (append-nil (past settings log).sent))
sent_more settings (Made call ∷ more) log =
    let p = past settings (more ++ log) in
    let older = sent_more settings more log in
    let now = called p call (refusal (standing p) call) in (
      older.0 ++ now.more,
      now.sent ∙ ap (λ z. z ++ now.more) older.1 ∙ append_assoc (past settings log).sent older.0 now.more,
    )
sent_more settings (Got reply ∷ more) log =
    let p = past settings (more ++ log) in
    let older = sent_more settings more log in
    (older.0, (same_verdict p (verdict (standing p) reply)).1 ∙ older.1)

pub longer : LongerLaw
longer holdings settings more log v i =
    let sent = (past settings log).sent in
    let m = sent_more settings more log in
    let all : requests settings (more ++ log) ≡ reverse m.0 ++ requests settings log =
    ap (λ z. reverse z) m.1 ∙ reverse-append sent m.0 in
    let owed = replies_more holdings.databases holdings.settings (reverse m.0) (requests settings log) in
    subst (λ z. Contains z v) (sym (ap (λ z. replies_to holdings z) all ∙ owed.1))
    (Contains-append_left (replies_to holdings (requests settings log)) owed.0 v i)
