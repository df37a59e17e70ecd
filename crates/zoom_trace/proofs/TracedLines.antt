-- Lines that are put behind others, and written.
use Rattle.std.proofs.Common.{◌≡◌, refl, sym, ◌∙◌, ap, subst, ℕ, ◌-◌, Bool, true, false, not, List, [], ◌∷◌, ◌++◌, length, take, drop, Option, Some, None, append_assoc, append-nil, take-append-drop}
use Rattle.std.proofs.lemmas.Bool.{false≢true, true≢false}
use Rattle.std.proofs.lemmas.List.{take_rest}
use Rattle.std.proofs.lemmas.Grind.{flat_map-append}
use Rattle.std.specs.Io.KnownBytes.{Appends, Keeps}
use Rattle.std.proofs.KnownBytes.{Appends-trans, Appends-kept, Appends-nil}
use Rattle.zoom_trace.specs.declared.entry.TraceEntry.{TraceEntry}
use Rattle.zoom_trace.specs.declared.tracing.Tracer.{Tracer}
use Rattle.zoom_trace.specs.Lines.{ended_line, trace_of}
use Rattle.zoom_trace.specs.Tracing.{IsTracedOn, IsTracedIf, HasPutFront, HasPutPiece}

-- ---- a text that is written in pieces

-- a front of the text was written, and the rest was not
abbrev pub HasPut : Option (List ℕ) → Option (List ℕ) → List ℕ → List ℕ → Type 0
HasPut old now text rest = (done : List ℕ) × (text ≡ done ++ rest) × Appends old now done

moves_front : (all done rest : List ℕ) (n : ℕ) → all ≡ done ++ rest
    → all ≡ (done ++ take n rest) ++ take (length rest - n) (drop n rest)
moves_front all done rest n e =
    e ∙ ap (λ (l : List ℕ). done ++ l) (sym (take-append-drop n rest))
    ∙ sym (append_assoc done (take n rest) (drop n rest))
    ∙ ap (λ (l : List ℕ). (done ++ take n rest) ++ l) (sym (take_rest rest n))

-- a piece more was written
pub put_piece : (old now then : Option (List ℕ)) (text rest : List ℕ) (n : ℕ) (r : Option ℕ) → HasPut old now text rest
    → HasPutPiece now then rest r → r ≡ Some n → HasPut old then text (take (length rest - n) (drop n rest))
put_piece old now then text rest n r h w is = (
  h.0 ++ take n rest,
  moves_front text h.0 rest n h.1,
  Appends-trans old now then h.0 (take n rest) h.2 (subst (HasPutPiece now then rest) is w),
)

pub none_put : (now : Option (List ℕ)) (text : List ℕ) → HasPut now now text text
none_put now text = ([], refl, Appends-nil now)

pub nothing_put : (old new : Option (List ℕ)) → Keeps old new → Appends old new []
nothing_put old new k = Appends-kept old old new [] (Appends-nil old) k

-- all was written
pub all_put : (old now : Option (List ℕ)) (text rest : List ℕ) → HasPut old now text rest → rest ≡ []
    → HasPutFront old now text true
all_put old now text rest h e = record { front = h.0; rest = rest; cut = h.1; appended = h.2; all = λ _. e }

-- a call failed, and the rest was not written
pub front_put : (old now : Option (List ℕ)) (text rest : List ℕ) → HasPut old now text rest
    → HasPutFront old now text false
front_put old now text rest h =
    record { front = h.0; rest = rest; cut = h.1; appended = h.2; all = λ e. absurd (false≢true e) }

appends_none : (old now then : Option (List ℕ)) (front : List ℕ) → Appends old now front → Appends now then []
    → Appends old then front
appends_none old now then front a b =
    subst (Appends old then) (append-nil front) (Appends-trans old now then front [] a b)

pub stopped_put : (old now then : Option (List ℕ)) (text rest : List ℕ) → HasPut old now text rest
    → Appends now then [] → HasPutFront old then text false
stopped_put old now then text rest h k =
    front_put old then text rest (h.0, h.1, appends_none old now then h.0 h.2 k)

-- after a flush
pub flushed : (old now then : Option (List ℕ)) (text : List ℕ) (whole : Bool) → HasPutFront old now text true
    → Keeps now then → HasPutFront old then text whole
flushed old now then text whole p k = record {
  front = p.front;
  rest = p.rest;
  cut = p.cut;
  appended = appends_none old now then p.front p.appended (nothing_put now then k);
  all = λ _. p.all refl;
}

-- ---- lines

-- nothing happened
pub none_traced : {W : Type 0} (contents : W → Option (List ℕ)) (t : Tracer W) → IsTracedOn contents [] t t
none_traced contents t = record {
  written = [];
  rest = t.lines.items;
  cut = append-nil t.lines.items;
  appended = Appends-nil (contents t.sink);
  waits = λ _. refl;
  stays = λ h. (h, refl);
}

-- the lines of entries were put behind those that wait
pub put_lines : {W : Type 0} (contents : W → Option (List ℕ)) (es : List TraceEntry) (old new : Tracer W)
    → new.sink ≡ old.sink → old.has_failed ≡ false → new.lines.items ≡ old.lines.items ++ trace_of es
    → IsTracedOn contents es old new
put_lines contents es old new s f l = record {
  written = [];
  rest = old.lines.items ++ trace_of es;
  cut = refl;
  appended = subst (λ x. Appends (contents old.sink) (contents x) []) (sym s) (Appends-nil (contents old.sink));
  waits = λ _. l;
  stays = λ h. absurd (false≢true (sym f ∙ h));
}

-- a call of the sink had failed before
pub dropped_lines : {W : Type 0} (contents : W → Option (List ℕ)) (es : List TraceEntry) (t : Tracer W)
    → t.has_failed ≡ true → IsTracedOn contents es t t
dropped_lines contents es t f = record {
  written = [];
  rest = t.lines.items ++ trace_of es;
  cut = refl;
  appended = Appends-nil (contents t.sink);
  waits = λ h. absurd (false≢true (sym h ∙ f));
  stays = λ h. (h, refl);
}

whole_of : (whole : Bool) → not whole ≡ false → whole ≡ true
whole_of true e = refl
whole_of false e = absurd (true≢false e)

-- the lines that waited were written, or a front of them
pub lines_out : {W : Type 0} (contents : W → Option (List ℕ)) (old new : Tracer W) (whole : Bool)
    → HasPutFront (contents old.sink) (contents new.sink) old.lines.items whole → old.has_failed ≡ false
    → new.has_failed ≡ not whole → new.lines.items ≡ [] → IsTracedOn contents [] old new
lines_out contents old new whole p f g n = record {
  written = p.front;
  rest = p.rest;
  cut = append-nil old.lines.items ∙ p.cut;
  appended = p.appended;
  waits = λ h. n ∙ sym (p.all (whole_of whole (sym g ∙ h)));
  stays = λ h. absurd (false≢true (sym f ∙ h));
}

-- they were dropped
pub lines_dropped : {W : Type 0} (contents : W → Option (List ℕ)) (old new : Tracer W) → new.sink ≡ old.sink
    → new.has_failed ≡ true → IsTracedOn contents [] old new
lines_dropped contents old new s f = record {
  written = [];
  rest = old.lines.items;
  cut = append-nil old.lines.items;
  appended = subst (λ x. Appends (contents old.sink) (contents x) []) (sym s) (Appends-nil (contents old.sink));
  waits = λ h. absurd (false≢true (sym h ∙ f));
  stays = λ h. (f, refl);
}

-- ---- one after the other

lines_cut : (waited : List ℕ) (es fs : List TraceEntry) (written rest : List ℕ)
    → waited ++ trace_of es ≡ written ++ rest → waited ++ trace_of (es ++ fs) ≡ written ++ (rest ++ trace_of fs)
lines_cut waited es fs written rest e =
    ap (λ (l : List ℕ). waited ++ l) (flat_map-append ended_line es fs)
    ∙ sym (append_assoc waited (trace_of es) (trace_of fs)) ∙ ap (λ (l : List ℕ). l ++ trace_of fs) e
    ∙ append_assoc written rest (trace_of fs)

both_traced : {W : Type 0} (contents : W → Option (List ℕ)) (es fs : List TraceEntry) (old mid new : Tracer W)
    (failed : Bool) → mid.has_failed ≡ failed → IsTracedOn contents es old mid → IsTracedOn contents fs mid new
    → IsTracedOn contents (es ++ fs) old new
both_traced contents es fs old mid new false f a b = record {
  written = a.written ++ b.written;
  rest = b.rest;
  cut = lines_cut old.lines.items es fs a.written a.rest a.cut
      ∙ ap (λ (l : List ℕ). a.written ++ (l ++ trace_of fs)) (sym (a.waits f))
      ∙ ap (λ (l : List ℕ). a.written ++ l) b.cut ∙ sym (append_assoc a.written b.written b.rest);
  appended = Appends-trans (contents old.sink) (contents mid.sink) (contents new.sink) a.written b.written a.appended
      b.appended;
  waits = b.waits;
  stays = λ h. absurd (false≢true (sym f ∙ (a.stays h).0));
}
both_traced contents es fs old mid new true f a b =
    let s = b.stays f in
    record {
      written = a.written;
      rest = a.rest ++ trace_of fs;
      cut = lines_cut old.lines.items es fs a.written a.rest a.cut;
      appended = appends_none (contents old.sink) (contents mid.sink) (contents new.sink) a.written a.appended
          (subst (Appends (contents mid.sink) (contents new.sink)) s.1 b.appended);
      waits = λ h. absurd (false≢true (sym h ∙ s.0));
      stays = λ h. (s.0, (a.stays h).1);
    }

pub more_traced : {W : Type 0} (contents : W → Option (List ℕ)) (es fs : List TraceEntry) (old mid new : Tracer W)
    → IsTracedOn contents es old mid → IsTracedOn contents fs mid new → IsTracedOn contents (es ++ fs) old new
more_traced contents es fs old mid new a b = both_traced contents es fs old mid new mid.has_failed refl a b

-- ---- a tracer, if there is one

pub none_if : {W : Type 0} (contents : W → Option (List ℕ)) (t : Option (Tracer W)) → IsTracedIf contents [] t t
none_if contents (Some t) = none_traced contents t
none_if contents None = tt

pub more_if : {W : Type 0} (contents : W → Option (List ℕ)) (es fs : List TraceEntry) (old mid new : Option (Tracer W))
    → IsTracedIf contents es old mid → IsTracedIf contents fs mid new → IsTracedIf contents (es ++ fs) old new
more_if contents es fs (Some old) (Some mid) (Some new) a b = more_traced contents es fs old mid new a b
more_if contents es fs None None None a b = tt
more_if contents es fs (Some old) None new a b = absurd a
more_if contents es fs None (Some mid) new a b = absurd a
more_if contents es fs (Some old) (Some mid) None a b = absurd b
more_if contents es fs None None (Some new) a b = absurd b
