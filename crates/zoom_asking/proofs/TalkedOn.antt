-- A connection was talked with, and what waits is to be sent.
use Rattle.std.proofs.Common.{◌≡◌, ℕ, Bool, true, false, cond, not, List, [], ◌∷◌, length, Some, Vec, refl, sym, ap, ap₂, subst, ◌∙◌, arith, append-nil}
use Rattle.std.proofs.lemmas.Bool.Decides.{nat_tests}
use Rattle.std.proofs.lemmas.Option.{slice_get_within}
use Rattle.std.specs.Global.{Global}
use Rattle.std.specs.Prelude.{slice_get, slice_set, nat_lt, ◌&&◌}
use Rattle.zoom_clock.specs.declared.action.Task.TheVariants.{Send}
use Rattle.zoom_clock.specs.declared.clock.Clock.{Clock}
use Rattle.zoom_clock.specs.Actions.{for_connection, all_for}
use Rattle.zoom_clock.proofs.Choices.{other_number}
use Rattle.zoom_clock.proofs.Places.{get_set_same, get_set_other}
use Rattle.zoom_asking.specs.declared.asking.Asking.{Asking}
use Rattle.zoom_asking.specs.Buffers.{octets_in}
use Rattle.zoom_asking.specs.Talks.{Relation}
use Rattle.zoom_asking.specs.Steps.{IsExtended}
use Rattle.zoom_asking.specs.Hosts.{new_sends}
use Rattle.zoom_asking.specs.Askings.{IsSame, IsSendPut, IsTalkedOn, unsent_at}

send_task : (c : ℕ) (b : Bool) → cond b (for_connection c Send ∷ []) [] ≡ all_for c (cond b (Send ∷ []) [])
send_task c true = refl
send_task c false = refl

-- nothing is to be sent if nothing more waits
pub no_new : (lost : Bool) (waits : List ℕ) → new_sends lost waits waits ≡ []
no_new lost waits =
    let same : nat_lt (length waits) (length waits) ≡ false = grind (arith, nat_tests) in
    ap (λ b. cond (not lost && b) (Send ∷ []) []) same ∙ by (not lost)
  where
    by : (b : Bool) → cond (b && false) (Send ∷ []) [] ≡ []
    by true = refl
    by false = refl

pub same_clock : (k : Clock) → IsSame k [] k
same_clock k = record {
  courses = refl;
  wakes = refl;
  queue = sym (append-nil k.queue.items);
  passed = refl;
  in_order = refl;
  orderly = λ o. o;
}

module _ (c : ℕ) (R : Relation) (lost : Bool) (old new : Asking) where
  -- the octets of the connection waited in this buffer, and now wait in that
  pub talked_on : (before after : Vec ℕ Global) (waited waits : ℕ) (to_send : Bool)
      → slice_get old.unsent.items c ≡ Some before
      → new.unsent.items ≡ slice_set old.unsent.items c after → waited ≡ length before.items
      → waits ≡ length after.items
      → IsExtended c R old.meta new.meta before.items after.items → to_send ≡ (not lost && nat_lt waited waits)
      → IsSendPut c to_send old new → IsTalkedOn c R lost old new
  talked_on before after waited waits to_send at set few many extended sends put =
      let was : unsent_at old c ≡ before.items = ap octets_in at in
      let is : unsent_at new c ≡ after.items =
      ap (λ l. octets_in (slice_get l c)) set
      ∙ ap octets_in (get_set_same old.unsent.items c after (slice_get_within old.unsent.items c before at)) in
      let same : to_send ≡ (not lost && nat_lt (length (unsent_at old c)) (length (unsent_at new c))) =
      sends ∙ ap₂ (λ m n. not lost && nat_lt m n) (few ∙ ap length (sym was)) (many ∙ ap length (sym is)) in
      let tasks : cond to_send (for_connection c Send ∷ []) []
      ≡ all_for c (new_sends lost (unsent_at old c) (unsent_at new c)) =
      ap (λ b. cond b (for_connection c Send ∷ []) []) same
      ∙ send_task c (not lost && nat_lt (length (unsent_at old c)) (length (unsent_at new c))) in
      record {
        meta = subst (λ l. IsExtended c R old.meta new.meta l (unsent_at new c)) (sym was)
            (subst (λ l. IsExtended c R old.meta new.meta before.items l) (sym is) extended);
        others = λ d n. ap (λ l. octets_in (slice_get l d)) set
            ∙ ap octets_in (get_set_other old.unsent.items c d after (λ e. other_number c d n (sym e)));
        clock = subst (λ ts. IsSame old.clock ts new.clock) tasks put;
      }

  -- nothing more waits
  pub quietly : new.unsent ≡ old.unsent → new.clock ≡ old.clock
      → ((waits : List ℕ) → IsExtended c R old.meta new.meta waits waits) → IsTalkedOn c R lost old new
  quietly same clock extended = record {
    meta = subst (λ u. IsExtended c R old.meta new.meta (unsent_at old c) (octets_in (slice_get u.items c)))
        (sym same)
        (extended (unsent_at old c));
    others = λ d n. ap (λ u. octets_in (slice_get u.items d)) same;
    clock = subst
        (λ u. IsSame old.clock
        (all_for c (new_sends lost (unsent_at old c) (octets_in (slice_get u.items c)))) new.clock)
        (sym same) (subst (λ ts. IsSame old.clock (all_for c ts) new.clock) (sym (no_new lost (unsent_at old c)))
        (subst (λ k. IsSame old.clock [] k) (sym clock) (same_clock old.clock)));
  }
