-- A connection after one more call.
use Rattle.std.proofs.Common.{◌≡◌, ℕ, false, List, [], ◌∷◌, ◌++◌, Option, None, Some, Ok}
use Rattle.std.proofs.Common.{Err, refl, sym, ap, subst, ◌∙◌, append_assoc, append-nil}
use Rattle.std.specs.Prelude.{is_some}
use Rattle.std.specs.List.{flat_map}
use Rattle.std.proofs.lemmas.Grind.{flat_map-append}
use Rattle.zapdu.specs.declared.apdu.Apdu.{Apdu}
use Rattle.zorigin.specs.declared.settings.Settings.{Settings}
use Rattle.zorigin.specs.declared.answer.Sent.{Sent}
use Rattle.zorigin.specs.declared.refusal.CallRefused.{CallRefused}
use Rattle.zorigin.specs.Standings.{Call}
use Rattle.zorigin.specs.Calls.{call_result, call_result_by, refusal}
use Rattle.zorigin.specs.Sending.{encoding_of, request_of, sent_of, IsReadBack}
use Rattle.zorigin.specs.Log.{Made, Past, standing, request_list, admit_unless, After as OriginAfter}
use Rattle.zoom_pool.specs.Links.{Link}
use Rattle.zoom_pool.specs.Transcripts.{Transcript, Event, Called, past_of, after_call, given, joined, request_octets}
use Rattle.zoom_pool.specs.Connections.{AreConsistent, WaitingAfter, AreReadBack, ConnectionAfter}

no_err : {A E : Type 0} {x : A} {e : E} → Ok x ≡ Err e → ⊥
no_err q = cc

requested : (ss : List Apdu) (x : Sent) (o : Option Apdu) → Ok x ≡ call_result_by None o
    → flat_map encoding_of (ss ++ request_list o) ≡ flat_map encoding_of ss ++ x.octets
requested ss x None q = absurd (no_err q)
requested ss x (Some apdu) q =
    let same : x ≡ sent_of apdu = cc in
    flat_map-append encoding_of ss (apdu ∷ []) ∙ ap (λ z. flat_map encoding_of ss ++ z) (append-nil (encoding_of apdu)
    ∙ ap (λ (z : Sent). z.octets) (sym same))

grown : (p : Past) (call : Call) (x : Sent) (r : Option CallRefused)
    → Ok x ≡ call_result_by r (request_of (standing p) call) → flat_map encoding_of (admit_unless p call r).sent
    ≡ flat_map encoding_of p.sent ++ x.octets
grown p call x (Some reason) q = absurd (no_err q)
grown p call x None q = requested p.sent x (request_of (standing p) call) q

pub joined_more : (ws : List (List ℕ)) (x : List ℕ) → joined (ws ++ x ∷ []) ≡ joined ws ++ x
joined_more ws x = flat_map-append (λ z. z) ws (x ∷ []) ∙ ap (λ z. joined ws ++ z) (append-nil x)

pub read_append : (vs ws : List Apdu) → AreReadBack vs → AreReadBack ws → AreReadBack (vs ++ ws)
read_append [] ws a b = b
read_append (v ∷ vs) ws a b = (a.0, read_append vs ws a.1 b)

requested_read : (ss : List Apdu) (x : Sent) (o : Option Apdu) → AreReadBack ss → IsReadBack x
    → Ok x ≡ call_result_by None o → AreReadBack (ss ++ request_list o)
requested_read ss x None a b q = absurd (no_err q)
requested_read ss x (Some apdu) a b q =
    let same : x ≡ sent_of apdu = cc in
    read_append ss (apdu ∷ []) a (subst IsReadBack same b, tt)

grown_read : (p : Past) (call : Call) (x : Sent) (r : Option CallRefused) → AreReadBack p.sent → IsReadBack x
    → Ok x ≡ call_result_by r (request_of (standing p) call) → AreReadBack (admit_unless p call r).sent
grown_read p call x (Some reason) a b q = absurd (no_err q)
grown_read p call x None a b q = requested_read p.sent x (request_of (standing p) call) a b q

sent_is : (x : Sent) (r : Option CallRefused) (o : Option Apdu) → Ok x ≡ call_result_by r o
    → x.octets ≡ flat_map encoding_of (request_list o)
sent_is x (Some reason) o q = absurd (no_err q)
sent_is x None None q = absurd (no_err q)
sent_is x None (Some apdu) q =
    let same : x ≡ sent_of apdu = cc in
    ap (λ (z : Sent). z.octets) same ∙ sym (append-nil (encoding_of apdu))

-- the octets of an admitted call are those of its request
pub sent_octets : (p : Transcript) (call : Call) (x : Sent) → Ok x ≡ call_result (standing (past_of p)) call
    → x.octets ≡ request_octets p call
sent_octets p call x q =
    sent_is x (refusal (standing (past_of p)) call) (request_of (standing (past_of p)) call) q

-- the origin admitted the call
pub called : (settings : Settings) (events : List Event) (p : Transcript) (c d : Link) (call : Call) (x : Sent)
    → ConnectionAfter settings events p c → is_some c.stop ≡ false → IsReadBack x
    → Ok x ≡ call_result (standing (past_of p)) call
    → OriginAfter p.settings (Made call ∷ p.log) d.origin
    → d.framer ≡ c.framer → d.held ≡ c.held → d.ended ≡ c.ended → d.stop ≡ c.stop → d.waiting ≡ c.waiting ++ x.octets
    → ConnectionAfter settings (Called call ∷ events) (after_call p call) d
called settings events p c d call x l stopped read answer after framer held ended stop waits =
    let m = l.matches in
    let going : is_some p.stop ≡ false = ap is_some (sym m.stop) ∙ stopped in
    let q : Transcript = record p { log = Made call ∷ p.log } in
    let is : after_call p call ≡ q = rw going refl in
    let matches : AreConsistent q d = record {
      origin = after;
      frames = rw (framer, held) (record {
        rest = m.frames.rest;
        behind = m.frames.behind;
        kept = m.frames.kept;
        limited = m.frames.limited;
        sound = m.frames.sound;
      });
      ended = ended ∙ m.ended;
      stop = stop ∙ m.stop;
    } in
    let waiting : WaitingAfter (Called call ∷ events) q d.waiting =
    λ lost. ap (λ z. given events ++ z) waits
    ∙ sym (append_assoc (given events) c.waiting x.octets)
    ∙ ap (λ z. z ++ x.octets) (l.waiting lost)
    ∙ sym (grown (past_of p) call x (refusal (standing (past_of p)) call) answer) in
    subst (λ z. ConnectionAfter settings (Called call ∷ events) z d) (sym is)
    (record {
      transcript = (p, l.transcript, sym is);
      matches = matches;
      waiting = waiting;
      reads = grown_read (past_of p) call x (refusal (standing (past_of p)) call) l.reads read answer;
    })
