-- Whether all connections are over.
use Rattle.std.proofs.Common.{◌≡◌, ℕ, zero, suc, Bool, true, false, List, [], ◌∷◌, map, Some, refl, sym, ap, ◌∙◌}
use Rattle.std.specs.Prelude.{slice_get}
use Rattle.zoom_clock.specs.declared.course.Course.{Course}
use Rattle.zoom_clock.specs.Clocks.{AreSettled, SomeIsOpen}
use Rattle.zoom_clock.specs.Courses.{is_settled}
use Rattle.zoom_asking.specs.declared.asking.Asking.{Asking}
use Rattle.zoom_asking.specs.Inquiries.{Inquiry, Entry}
use Rattle.zoom_asking.specs.Hosts.{AskedConnection}
use Rattle.zoom_asking.specs.Askings.{AreOver, AskingAfter}
use Rattle.zoom_asking.proofs.Holding.{get_map}

abbrev course_in : AskedConnection → Course
course_in h = h.course

-- the connection of a course
host_of : (hosts : List AskedConnection) (c : ℕ) (p : Course) → slice_get (map course_in hosts) c ≡ Some p
    → (h : AskedConnection) × (slice_get hosts c ≡ Some h) × (h.course ≡ p)
host_of [] c p get = absurd (cc)
host_of (h ∷ hs) zero p get = (h, refl, cc)
host_of (h ∷ hs) (suc c) p get = host_of hs c p get

pub over_at : (result : Bool) (asking : Asking) (i : Inquiry) (history : List Entry) (a : AskingAfter i history asking)
    → (result ≡ true → AreSettled asking.clock.courses.items) → (result ≡ false → SomeIsOpen asking.clock.courses.items)
    → AreOver result a.hosts
over_at true asking i history a over some = λ c h get.
    over refl c h.course (ap (λ l. slice_get l c) a.holds.courses ∙ get_map course_in a.hosts c h get)
over_at false asking i history a over some =
    let s = some refl in
    let at : slice_get (map course_in a.hosts) s.0 ≡ Some s.1 = ap (λ l. slice_get l s.0) (sym a.holds.courses) ∙ s.2 in
    let h = host_of a.hosts s.0 s.1 at in
    (s.0, h.0, h.1, ap (λ (p : Course). is_settled p.stage) h.2 ∙ s.3)
