-- Entries have one dialogue at most.
use Rattle.std.proofs.Common.{◌≡◌, refl, sym, ◌∙◌, ap, subst, ℕ, Bool, true, false, List, [], ◌∷◌, ◌++◌, length, slice_get, slice_set, Option, Some, None, Result, Ok, Err}
use Rattle.std.proofs.lemmas.Option.{same_Some}
use Rattle.zber.specs.declared.fault.FaultKind.{FaultKind}
use Rattle.zber.specs.declared.framer.TheConstants.{MESSAGE_LIMIT}
use Rattle.zber.specs.Elements.{Element}
use Rattle.zber.specs.Laws.{OneResult}
use Rattle.zapdu.specs.declared.apdu.Apdu.{Apdu}
use Rattle.zapdu.specs.declared.apdu.ApduError.{ApduError}
use Rattle.zapdu.specs.declared.apdu.ApduError.TheVariants as apdus
use Rattle.zapdu.specs.Writes.{Writes, OneRefusal}
use Rattle.zoom_trace.specs.declared.entry.Traced.{Traced}
use Rattle.zoom_trace.specs.declared.entry.Traced.TheVariants as traced
use Rattle.zoom_trace.specs.declared.entry.TraceEntry.{TraceEntry}
use Rattle.zoom_trace.specs.Replays.{connection_of}
use Rattle.zmeta_trace.specs.declared.dialogue.Talk.{Talk}
use Rattle.zmeta_trace.specs.Dialogue.{message_text, fault_text, IsDecodedAs, AreMessages, unfinished, message, fault, OctetsText, TalkText, TalkTextIf, IsShownOn, EntryTextOn, AreLinesOf, none, more, OneDialogue}

-- the statements of the laws below
pub record Laws : Type 0 where
  pub answer : OneResult
  pub value : (v w : Apdu) (e : Element) → Writes v e → Writes w e → v ≡ w
  pub refusal : OneRefusal

module _ (l : Laws) where
  -- ---- messages

  decoded_one : (e : Element) (c d : Result Apdu ApduError) → IsDecodedAs e c → IsDecodedAs e d → c ≡ d
  decoded_one e (Err apdus.Memory) d a b = absurd a.0
  decoded_one e c (Err apdus.Memory) a b = absurd b.0
  decoded_one e (Ok v) (Ok w) a b = ap Ok (l.value v w e a.1 b.1)
  decoded_one e (Ok v) (Err apdus.NotApdu) a b = absurd (l.refusal.written v e a.1 b.1)
  decoded_one e (Ok v) (Err (apdus.Malformed kind at)) a b = absurd (b.1.0 v a.1)
  decoded_one e (Err apdus.NotApdu) (Ok w) a b = absurd (l.refusal.written w e b.1 a.1)
  decoded_one e (Err apdus.NotApdu) (Err apdus.NotApdu) a b = refl
  decoded_one e (Err apdus.NotApdu) (Err (apdus.Malformed kind at)) a b = absurd (l.refusal.known kind at e a.1 b.1.1)
  decoded_one e (Err (apdus.Malformed kind at)) (Ok w) a b = absurd (a.1.0 w b.1)
  decoded_one e (Err (apdus.Malformed kind at)) (Err apdus.NotApdu) a b = absurd (l.refusal.known kind at e b.1 a.1.1)
  decoded_one e (Err (apdus.Malformed j a)) (Err (apdus.Malformed k b)) x y =
      let same = l.refusal.one_place j k a b e x.1.1 y.1.1 in
      λ i. Err (apdus.Malformed (same.0 i) (same.1 i))

  messages_one : (place xs s t : List ℕ) (m n : Option (List ℕ)) → AreMessages place xs s m → AreMessages place xs t n
      → (s ≡ t) × (m ≡ n)
  messages_one place xs s t m n (unfinished u) (unfinished v) = (refl, refl)
  messages_one place xs s t m n (unfinished u) (message {rest = r} {e = e} d b is others) = absurd (u.no_message e r b)
  messages_one place xs s t m n (unfinished u) (fault {kind = k} {at = at} f) = absurd (u.no_fault k at f)
  messages_one place xs s t m n (message {rest = r} {e = e} d b is others) (unfinished u) = absurd (u.no_message e r b)
  messages_one place xs s t m n (message {rest = r} {e = e} d b is others) (fault {kind = k} {at = at} f) =
      absurd (l.answer.either MESSAGE_LIMIT xs e r k at b f)
  messages_one place xs s t m n (message {rest = r} {text = x} {e = e} d b is others)
      (message {rest = q} {text = y} {e = f} c a so rest) =
      let same = l.answer.one_message MESSAGE_LIMIT xs e f r q b a in
      let decoded : d ≡ c = decoded_one f d c (subst (λ (z : Element). IsDecodedAs z d) same.0 is) so in
      let later = messages_one place q x y m n (subst (λ (z : List ℕ). AreMessages place z x m) same.1 others) rest in
      ((λ i. (place ++ message_text (decoded i)) ++ later.0 i), later.1)
  messages_one place xs s t m n (fault {kind = k} {at = at} f) (unfinished u) = absurd (u.no_fault k at f)
  messages_one place xs s t m n (fault {kind = k} {at = at} f) (message {rest = r} {e = e} d b is others) =
      absurd (l.answer.either MESSAGE_LIMIT xs e r k at b f)
  messages_one place xs s t m n (fault {kind = j} {at = a} f) (fault {kind = k} {at = b} g) =
      let same = l.answer.one_fault MESSAGE_LIMIT xs j k a b f g in
      ((λ i. place ++ fault_text (same.0 i) (same.1 i)), refl)

  octets_one : (place octets : List ℕ) (old m n : Option (List ℕ)) (s t : List ℕ) → OctetsText place octets old m s
      → OctetsText place octets old n t → (s ≡ t) × (m ≡ n)
  octets_one place octets None m n s t a b = (a.1 ∙ sym b.1, a.0 ∙ sym b.0)
  octets_one place octets (Some left) m n s t a b = messages_one place (left ++ octets) s t m n a b

  -- ---- entries

  both : (s t : List ℕ) (m n : Talk) (text : List ℕ) (talk : Talk) → (s ≡ text) × (m ≡ talk)
      → (t ≡ text) × (n ≡ talk) → (s ≡ t) × (m ≡ n)
  both s t m n text talk a b = (a.0 ∙ sym b.0, a.1 ∙ sym b.1)

  same_talk : (m n : Talk) → m.sent ≡ n.sent → m.received ≡ n.received → m ≡ n
  same_talk m n a b = λ i. record { sent = a i; received = b i }

  talk_one : (at : ℕ) (name : List ℕ) (what : Traced) (old m n : Talk) (s t : List ℕ) → TalkText at name what old m s
      → TalkText at name what old n t → (s ≡ t) × (m ≡ n)
  talk_one at name (traced.Received c octets) old m n s t a b =
      let is = octets_one _ octets old.received m.received n.received s t a.0 b.0 in
      (is.0, same_talk m n (a.1 ∙ sym b.1) is.1)
  talk_one at name (traced.Sent c octets) old m n s t a b =
      let is = octets_one _ octets old.sent m.sent n.sent s t a.0 b.0 in
      (is.0, same_talk m n is.1 (a.1 ∙ sym b.1))
  talk_one at name (traced.Reported c report) old m n s t a b =
      (a.0 ∙ sym b.0, same_talk m n (a.2 ∙ sym b.2) (a.1 ∙ sym b.1))
  talk_one at name (traced.Wanted c task) old m n s t a b = both s t m n _ _ a b
  talk_one at name (traced.Noticed c notice) old m n s t a b = both s t m n _ _ a b
  talk_one at name (traced.Began given) old m n s t a b = both s t m n _ _ a b
  talk_one at name traced.Ticked old m n s t a b = both s t m n _ _ a b
  talk_one at name traced.GaveUp old m n s t a b = both s t m n _ _ a b

  talk_if_one : (shown : Bool) (at : ℕ) (name : List ℕ) (what : Traced) (old m n : Talk) (s t : List ℕ)
      → TalkTextIf shown at name what old m s → TalkTextIf shown at name what old n t → (s ≡ t) × (m ≡ n)
  talk_if_one true at name what old m n s t a b = talk_one at name what old m n s t a b
  talk_if_one false at name what old m n s t a b = both s t m n _ _ a b

  some_one : {A : Type 0} {o : Option A} {x y : A} → o ≡ Some x → o ≡ Some y → x ≡ y
  some_one {x = x} {y = y} p q = same_Some x y (sym p ∙ q)

  talked_one : (names : List (List ℕ)) (chosen : List Bool) (c : ℕ) (e : TraceEntry) (old m n : List Talk)
      (s t : List ℕ) → IsShownOn names chosen c e old m s → IsShownOn names chosen c e old n t → (s ≡ t) × (m ≡ n)
  talked_one names chosen c e old m n s t a b =
      let name : a.name ≡ b.name = some_one a.named b.named in
      let shown : a.shown ≡ b.shown = some_one a.chosen_so b.chosen_so in
      let before : a.before ≡ b.before = some_one a.stood b.stood in
      let lines : TalkTextIf b.shown e.at b.name e.what b.before a.after s =
      subst (λ (z : Talk). TalkTextIf b.shown e.at b.name e.what z a.after s) before
      (subst (λ (z : List ℕ). TalkTextIf b.shown e.at z e.what a.before a.after s) name
      (subst (λ (z : Bool). TalkTextIf z e.at a.name e.what a.before a.after s) shown a.lines)) in
      let is = talk_if_one b.shown e.at b.name e.what b.before a.after b.after s t lines b.lines in
      (is.0, a.stands ∙ ap (slice_set old c) is.1 ∙ sym b.stands)

  entry_one : (names : List (List ℕ)) (chosen : List Bool) (on : Option ℕ) (e : TraceEntry) (old m n : List Talk)
      (s t : List ℕ) → EntryTextOn names chosen on e old m s → EntryTextOn names chosen on e old n t
      → (s ≡ t) × (m ≡ n)
  entry_one names chosen None e old m n s t a b = (a.0 ∙ sym b.0, a.1 ∙ sym b.1)
  entry_one names chosen (Some c) e old m n s t a b = talked_one names chosen c e old m n s t a b

  -- ---- the dialogue

  never_empty : (xs : List TraceEntry) (x : TraceEntry) → [] ≡ xs ++ x ∷ [] → ⊥
  never_empty [] x e = cc
  never_empty (y ∷ xs) x e = cc

  last_same : (xs ys : List TraceEntry) (x y : TraceEntry) → xs ++ x ∷ [] ≡ ys ++ y ∷ [] → (xs ≡ ys) × (x ≡ y)
  last_same [] [] x y e = let is : x ≡ y = cc in (refl, is)
  last_same [] (b ∷ []) x y e = absurd cc
  last_same [] (b ∷ c ∷ ys) x y e = absurd cc
  last_same (a ∷ []) [] x y e = absurd cc
  last_same (a ∷ c ∷ xs) [] x y e = absurd cc
  last_same (a ∷ xs) (b ∷ ys) x y e =
      let head : a ≡ b = cc in
      let tail : xs ++ x ∷ [] ≡ ys ++ y ∷ [] = cc in
      let is = last_same xs ys x y tail in
      ((λ i. head i ∷ is.0 i), is.1)

  lines_one : (names : List (List ℕ)) (chosen : List Bool) (all most : List TraceEntry) (m n : List Talk)
      (s t : List ℕ) → AreLinesOf names chosen all m s → AreLinesOf names chosen most n t → all ≡ most
      → (s ≡ t) × (m ≡ n)
  lines_one names chosen all most m n s t none none e = (refl, refl)
  lines_one names chosen all most m n s t none (more {es = ys} y new line before entry) e =
      absurd (never_empty ys y e)
  lines_one names chosen all most m n s t (more {es = xs} x new line before entry) none e =
      absurd (never_empty xs x (sym e))
  lines_one names chosen all most m n s t (more {es = xs} {old = us} {text = a} x new line before entry)
      (more {es = ys} {old = vs} {text = b} y again other earlier item) e =
      let is = last_same xs ys x y e in
      let first = lines_one names chosen xs ys us vs a b before earlier is.0 in
      let moved : EntryTextOn names chosen (connection_of y.what) y vs new line =
      subst (λ (z : List Talk). EntryTextOn names chosen (connection_of y.what) y z new line) first.1
      (subst (λ (z : TraceEntry). EntryTextOn names chosen (connection_of z.what) z us new line) is.1 entry) in
      let last = entry_one names chosen (connection_of y.what) y vs new again line other moved item in
      ((λ i. first.0 i ++ last.0 i), last.1)

  pub one_dialogue : OneDialogue
  one_dialogue names chosen es s t a b = (lines_one names chosen es es a.0 b.0 s t a.1 b.1 refl).0
