-- What a target owes to a request, and its state after the request.
use Rattle.std.proofs.Common.{◌≡◌, inl, inr, true, false, List, [], ◌∷◌, ◌++◌, Option, None, Some, Result, Ok, Err, refl, sym, ap, subst, ◌∙◌, cond, append-nil}
use Rattle.zapdu.specs.declared.apdu.Apdu.{Apdu}
use Rattle.zapdu.specs.declared.apdu.Apdu.TheVariants as apdus
use Rattle.zapdu.specs.declared.productions.init_request.InitRequest.{InitRequest}
use Rattle.zapdu.specs.declared.productions.search_request.SearchRequest.{SearchRequest}
use Rattle.zapdu.specs.declared.productions.search_response.SearchResponse.{SearchResponse}
use Rattle.zapdu.specs.declared.productions.present_response.PresentResponse.{PresentResponse}
use Rattle.zplan.specs.Positions.{IsIn}
use Rattle.zplan.proofs.Cuts.{in_left, in_right, in_either}
use Rattle.zorigin.specs.declared.answer.What.{What}
use Rattle.zorigin.specs.declared.answer.What.TheVariants as what
use Rattle.zplan.specs.Ranges.{positions}
use Rattle.zorigin.specs.Fitting.{IsFitSearchReply, IsFitPresentReply, IsFitReply}
use Rattle.zorigin.specs.Accepts.{id_of}
use Rattle.ztarget.specs.declared.database.Database.{Database}
use Rattle.ztarget.specs.declared.settings.TargetSettings.{TargetSettings}
use Rattle.ztarget.specs.declared.error.TargetError.{TargetError}
use Rattle.ztarget.specs.Faults.{Bib1Fault}
use Rattle.ztarget.specs.Searching.{Found}
use Rattle.ztarget.specs.Standing.{Terms, State, Fresh, Open, Ended, NamedSet, set_named}
use Rattle.ztarget.specs.Initialising.{init_response, is_accepted, terms}
use Rattle.ztarget.specs.Responding.{search_fault, asked_positions, presented}
use Rattle.ztarget.specs.Replies.{OwedReply, close_reply, found_by_query, owed_to_init, owed_to_close, owed_to_search_unless, owed_to_search, owed_to_present, owed_in_state, next_association, association_after, owed, reply_of, replies}
use Rattle.zoom_laws.specs.Accord.{AreTaken}
use Rattle.zoom_laws.proofs.AccordTheory.Members.{AreApart, apart_none, apart_first, apart_rest, apart_push}
use Rattle.zoom_laws.proofs.AccordTheory.FittingReplies.{found_fits, failed_fits, presented_fits, presented_id}

-- the request asks for such an operation
abbrev pub Asks : What → Apdu → Type 0
Asks what.Init (apdus.InitRequest r) = Unit {0}
Asks what.Search (apdus.SearchRequest r) = Unit {0}
Asks (what.Present ranges) (apdus.PresentRequest r) = positions ranges ≡ asked_positions r
Asks _ _ = ⊥

module _ (target : TargetSettings) where
  -- the reply is one to the request
  abbrev pub Replies : Apdu → Apdu → Type 0
  Replies (apdus.InitRequest r) x = x ≡ apdus.InitResponse (init_response target r)
  Replies (apdus.SearchRequest r) x =
      (v : SearchResponse) × (x ≡ apdus.SearchResponse v) × IsFitSearchReply v × (v.reference_id ≡ r.reference_id)
  Replies (apdus.PresentRequest r) x =
      (v : PresentResponse) × (x ≡ apdus.PresentResponse v) × IsFitPresentReply (asked_positions r) v
      × (v.reference_id ≡ r.reference_id)
  Replies (apdus.Close c) x = x ≡ apdus.Close (close_reply c)
  Replies _ x = ⊥

  pub reply_id : (v x : Apdu) → Replies v x → id_of x ≡ id_of v
  reply_id (apdus.InitRequest r) x h = ap id_of h
  reply_id (apdus.SearchRequest r) x h = ap id_of h.1 ∙ h.3
  reply_id (apdus.PresentRequest r) x h = ap id_of h.1 ∙ h.3
  reply_id (apdus.Close c) x h = ap id_of h
  reply_id (apdus.InitResponse r) x h = absurd h
  reply_id (apdus.SearchResponse r) x h = absurd h
  reply_id (apdus.PresentResponse r) x h = absurd h

  pub reply_fits : (w : What) (v x : Apdu) → Asks w v → Replies v x → IsFitReply w x
  reply_fits what.Init (apdus.InitRequest r) x a h = subst (IsFitReply what.Init) (sym h) tt
  reply_fits what.Init _ x a h = absurd a
  reply_fits what.Search (apdus.SearchRequest r) x a h = subst (IsFitReply what.Search) (sym h.1) h.2
  reply_fits what.Search _ x a h = absurd a
  reply_fits (what.Present ranges) (apdus.PresentRequest r) x a h =
      subst (IsFitReply (what.Present ranges)) (sym h.1) (subst (λ ps. IsFitPresentReply ps h.0) (sym a) h.2)
  reply_fits (what.Present ranges) _ x a h = absurd a

  -- the request ends the association: Close, or an Init that is refused
  abbrev pub EndsAssociation : Apdu → Type 0
  EndsAssociation (apdus.InitRequest r) = is_accepted target r.protocol_version ≡ false
  EndsAssociation (apdus.Close c) = Unit {0}
  EndsAssociation _ = ⊥

  module _ (databases : List Database) where
    -- ---- one request

    abbrev state_in : Result OwedReply TargetError → State
    state_in (Ok a) = a.association.state
    state_in (Err e) = Ended

    to_search_replies : (terms : Terms) (sets : List NamedSet) (r : SearchRequest) (found : List Found)
        (o : Option Bib1Fault)
        → Replies (apdus.SearchRequest r) (owed_to_search_unless terms sets r found o).reply
    to_search_replies terms sets r found (Some reason) = (_, refl, failed_fits r reason, refl)
    to_search_replies terms sets r found None = (_, refl, found_fits terms.size r found, refl)

    to_search_state : (terms : Terms) (sets : List NamedSet) (r : SearchRequest) (found : List Found)
        (o : Option Bib1Fault)
        → (owed_to_search_unless terms sets r found o).association.state ≡ Open terms
    to_search_state terms sets r found (Some reason) = refl
    to_search_state terms sets r found None = refl

    pub search_state : (terms : Terms) (sets : List NamedSet) (r : SearchRequest)
        → (owed_to_search databases terms sets r).association.state ≡ Open terms
    search_state terms sets r =
        to_search_state terms sets r (found_by_query databases r r.query) (search_fault databases sets terms r r.query)

    ok_same : (a b : OwedReply) (e : Result OwedReply TargetError) → e ≡ Ok a → e ≡ Ok b → a ≡ b
    ok_same a b e h k = cc

    pub answer_replies : (state : State) (sets : List NamedSet) (v : Apdu) (a : OwedReply)
        → owed_in_state databases target state sets v ≡ Ok a → Replies v a.reply
    answer_replies Fresh sets (apdus.InitRequest r) a h =
        ap (λ (x : OwedReply). x.reply) (ok_same a (owed_to_init target sets r) (Ok (owed_to_init target sets r)) h refl)
    answer_replies Fresh sets (apdus.Close c) a h =
        ap (λ (x : OwedReply). x.reply) (ok_same a (owed_to_close sets c) (Ok (owed_to_close sets c)) h refl)
    answer_replies (Open terms) sets (apdus.SearchRequest r) a h =
        let is : owed_to_search databases terms sets r ≡ a =
        ok_same (owed_to_search databases terms sets r) a (Ok (owed_to_search databases terms sets r)) refl h in
        subst (λ (x : OwedReply). Replies (apdus.SearchRequest r) x.reply) is
        (to_search_replies terms sets r (found_by_query databases r r.query)
        (search_fault databases sets terms r r.query))
    answer_replies (Open terms) sets (apdus.PresentRequest r) a h =
        let is : owed_to_present terms sets r ≡ a =
        ok_same (owed_to_present terms sets r) a (Ok (owed_to_present terms sets r)) refl h in
        let o = set_named sets r.result_set_id in
        subst (λ (x : OwedReply). Replies (apdus.PresentRequest r) x.reply) is
        (presented terms r o, refl, presented_fits terms r o, presented_id terms r o)
    answer_replies (Open terms) sets (apdus.Close c) a h =
        ap (λ (x : OwedReply). x.reply) (ok_same a (owed_to_close sets c) (Ok (owed_to_close sets c)) h refl)
    answer_replies Fresh sets (apdus.SearchRequest r) a h = absurd (cc)
    answer_replies Fresh sets (apdus.PresentRequest r) a h = absurd (cc)
    answer_replies (Open terms) sets (apdus.InitRequest r) a h = absurd (cc)
    answer_replies Ended sets (apdus.InitRequest r) a h = absurd (cc)
    answer_replies Ended sets (apdus.SearchRequest r) a h = absurd (cc)
    answer_replies Ended sets (apdus.PresentRequest r) a h = absurd (cc)
    answer_replies Ended sets (apdus.Close c) a h = absurd (cc)
    answer_replies state sets (apdus.InitResponse r) a h = absurd (cc)
    answer_replies state sets (apdus.SearchResponse r) a h = absurd (cc)
    answer_replies state sets (apdus.PresentResponse r) a h = absurd (cc)

    -- Init is taken first alone, and nothing after the end
    init_fresh : (state : State) (sets : List NamedSet) (r : InitRequest) (a : OwedReply)
        → owed_in_state databases target state sets (apdus.InitRequest r) ≡ Ok a → state ≡ Fresh
    init_fresh Fresh sets r a h = refl
    init_fresh (Open terms) sets r a h = absurd (cc)
    init_fresh Ended sets r a h = absurd (cc)

    none_after : (sets : List NamedSet) (v : Apdu) (a : OwedReply) → owed_in_state databases target Ended sets v ≡ Ok a → ⊥
    none_after sets (apdus.InitRequest r) a h = cc
    none_after sets (apdus.SearchRequest r) a h = cc
    none_after sets (apdus.PresentRequest r) a h = cc
    none_after sets (apdus.Close c) a h = cc
    none_after sets (apdus.InitResponse r) a h = cc
    none_after sets (apdus.SearchResponse r) a h = cc
    none_after sets (apdus.PresentResponse r) a h = cc

    ends_so : (state : State) (sets : List NamedSet) (v : Apdu) (a : OwedReply) → EndsAssociation v
        → owed_in_state databases target state sets v ≡ Ok a → a.association.state ≡ Ended
    ends_so Fresh sets (apdus.InitRequest r) a n h =
        ap state_in (sym h) ∙ ap (λ b. cond b (Open (terms target r)) Ended) n
    ends_so Fresh sets (apdus.Close c) a n h = ap state_in (sym h)
    ends_so (Open t) sets (apdus.Close c) a n h = ap state_in (sym h)
    ends_so (Open t) sets (apdus.InitRequest r) a n h = absurd (cc)
    ends_so Ended sets (apdus.InitRequest r) a n h = absurd (cc)
    ends_so Ended sets (apdus.Close c) a n h = absurd (cc)
    ends_so state sets (apdus.SearchRequest r) a n h = absurd n
    ends_so state sets (apdus.PresentRequest r) a n h = absurd n
    ends_so state sets (apdus.InitResponse r) a n h = absurd n
    ends_so state sets (apdus.SearchResponse r) a n h = absurd n
    ends_so state sets (apdus.PresentResponse r) a n h = absurd n

    begun : (state : State) (sets : List NamedSet) (v : Apdu) (a : OwedReply) → owed_in_state databases target state sets v ≡ Ok a
        → a.association.state ≡ Fresh → ⊥
    begun Fresh sets (apdus.InitRequest r) a h f =
        elim (is_accepted target r.protocol_version) as (λ b. cond b (Open (terms target r)) Ended ≡ Fresh → ⊥)
        [ true ↦ λ e. cc | false ↦ λ e. cc ] (ap state_in h ∙ f)
    begun Fresh sets (apdus.Close c) a h f = absurd (let e : Ended ≡ Fresh = ap state_in h ∙ f in cc)
    begun (Open t) sets (apdus.SearchRequest r) a h f =
        absurd (let e : Open t ≡ Fresh = sym (search_state t sets r) ∙ ap state_in h ∙ f in cc)
    begun (Open t) sets (apdus.PresentRequest r) a h f = absurd (let e : Open t ≡ Fresh = ap state_in h ∙ f in cc)
    begun (Open t) sets (apdus.Close c) a h f = absurd (let e : Ended ≡ Fresh = ap state_in h ∙ f in cc)
    begun (Open t) sets (apdus.InitRequest r) a h f = absurd (cc)
    begun Fresh sets (apdus.SearchRequest r) a h f = absurd (cc)
    begun Fresh sets (apdus.PresentRequest r) a h f = absurd (cc)
    begun Ended sets v a h f = none_after sets v a h
    begun state sets (apdus.InitResponse r) a h f = absurd (cc)
    begun state sets (apdus.SearchResponse r) a h f = absurd (cc)
    begun state sets (apdus.PresentResponse r) a h f = absurd (cc)

    -- ---- all of them

    abbrev state_after : List Apdu → State
    state_after received = (association_after databases target received).state

    -- the state after a request that is taken
    pub after_taken : (received : List Apdu) (v : Apdu) (a : OwedReply) → owed databases target received v ≡ Ok a
        → state_after (v ∷ received) ≡ a.association.state
    after_taken received v a h = ap (λ r. (next_association (association_after databases target received) r).state) h

    -- a reply that is owed is one to a request that was received
    pub replied : (received : List Apdu) (x : Apdu) → IsIn x (replies databases target received)
        → (v : Apdu) × IsIn v received × Replies v x
    replied [] x i = absurd i
    replied (v ∷ received) x i =
        elim (in_either x (replies databases target received) (reply_of (owed databases target received v)) i) [
          | inl j ↦ (let m = replied received x j in (m.0, inr m.1, m.2))
          | inr j ↦ (v, inl refl, last (owed databases target received v) refl j)
        ]
      where
        last : (r : Result OwedReply TargetError) → owed databases target received v ≡ r → IsIn x (reply_of r)
            → Replies v x
        last (Ok a) e (inl is) =
            subst (Replies v) (sym is) (answer_replies (state_after received)
            (association_after databases target received).sets v a e)
        last (Ok a) e (inr none) = absurd none
        last (Err reason) e none = absurd none

    -- each request that is taken has its reply
    pub replying : (received : List Apdu) → AreTaken databases target received → (v : Apdu) → IsIn v received
        → (x : Apdu) × IsIn x (replies databases target received) × Replies v x
    replying [] t v i = absurd i
    replying (w ∷ received) t v (inl e) =
        let a = t.0.0 in (
          a.reply,
          in_right a.reply (replies databases target received) (reply_of (owed databases target received w))
              (subst (λ r. IsIn a.reply (reply_of r)) (sym t.0.1) (inl refl)),
          subst (λ y. Replies y a.reply) (sym e)
              (answer_replies (state_after received) (association_after databases target received).sets w a t.0.1),
        )
    replying (w ∷ received) t v (inr i) =
        let m = replying received t.1 v i in
        (m.0, in_left m.0 (replies databases target received) (reply_of (owed databases target received w)) m.1, m.2)

    -- replies to requests with distinct ids have distinct ids
    pub replies_apart : (received : List Apdu) → AreApart received → AreApart (replies databases target received)
    replies_apart [] d = apart_none
    replies_apart (v ∷ received) d =
        apart_with v received (owed databases target received v) refl d
        (replies_apart received (apart_rest v received d))
      where
        apart_with : (w : Apdu) (vs : List Apdu) (r : Result OwedReply TargetError) → owed databases target vs w ≡ r
            → AreApart (w ∷ vs)
            → AreApart (replies databases target vs) → AreApart (replies databases target vs ++ reply_of r)
        apart_with w vs (Err reason) e h before = subst AreApart (sym (append-nil (replies databases target vs))) before
        apart_with w vs (Ok a) e h before = apart_push (replies databases target vs) a.reply (λ x i same.
            let m = replied vs x i in
            let to = answer_replies (state_after vs) (association_after databases target vs).sets w a e in
            apart_first w vs h m.0 m.1 (sym (reply_id w a.reply to) ∙ sym same ∙ reply_id m.0 x m.2)) before

    -- the request that ended the association was the last
    pub newest : (received : List Apdu) → AreTaken databases target received → (w : Apdu) → IsIn w received
        → EndsAssociation w
        → (before : List Apdu) × (received ≡ w ∷ before)
    newest [] t w i n = absurd i
    newest (v ∷ received) t w (inl e) n = (received, ap (λ y. y ∷ received) (sym e))
    newest (v ∷ received) t w (inr i) n = absurd (
        let m = newest received t.1 w i n in
        ended m.0 m.1
        )
      where
        ended : (before : List Apdu) → received ≡ w ∷ before → ⊥
        ended before e =
            let u = subst (AreTaken databases target) e t.1 in
            let left : state_after (w ∷ before) ≡ Ended =
            after_taken before w u.0.0 u.0.1
            ∙ ends_so (state_after before) (association_after databases target before).sets w u.0.0 n u.0.1 in
            let here : state_after received ≡ Ended = ap state_after e ∙ left in
            none_after (association_after databases target received).sets v t.0.0
            (ap (λ s. owed_in_state databases target s (association_after databases target received).sets v) (sym here) ∙ t.0.1)

    pub nothing_before : (received : List Apdu) → AreTaken databases target received → state_after received ≡ Fresh
        → received ≡ []
    nothing_before [] t f = refl
    nothing_before (v ∷ received) t f =
        absurd (begun (state_after received) (association_after databases target received).sets v t.0.0 t.0.1
        (sym (after_taken received v t.0.0 t.0.1) ∙ f))

    -- if Init was refused, nothing else was sent
    pub refused_alone : (received : List Apdu) → AreTaken databases target received → (r : InitRequest)
        → IsIn (apdus.InitRequest r) received
        → is_accepted target r.protocol_version ≡ false → received ≡ apdus.InitRequest r ∷ []
    refused_alone received t r i n =
        let m = newest received t (apdus.InitRequest r) i n in
        let u = subst (AreTaken databases target) m.1 t in
        let none =
        nothing_before m.0 u.1 (init_fresh (state_after m.0)
        (association_after databases target m.0).sets r u.0.0 u.0.1) in
        m.1 ∙ ap (λ vs. apdus.InitRequest r ∷ vs) none
