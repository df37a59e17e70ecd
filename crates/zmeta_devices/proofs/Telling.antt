-- A fault is told, and then, where that is wanted, in words.
use Rattle.std.proofs.Common.{◌≡◌, ◌∙◌, ◌++◌, Bool, true, refl, inl, inr, subst, sym}
use Rattle.std.proofs.KnownBytes.{Appends-trans, Appends-kept}
use Rattle.zoom_devices.specs.Devices.{HasFailed}
use Rattle.zmeta_devices.specs.Devices.{Device, HasGained, AfterTell, AfterWords, ShowFaultResult, fault_line}
use Rattle.zmeta_devices.specs.Explained.{words_line}
use Rattle.zmeta_devices.specs.declared.fault.Fault.{Fault}

-- behind the line of a fault
told_words : (old mid new : Device) (f : Fault) → HasGained old mid (fault_line f) → AfterWords mid new f
    → AfterTell old new f
told_words old mid new f g w = elim w [
  | inl b ↦ inl (record {
    path = b.path ∙ g.path;
    failed = subst (λ z. HasFailed z new.failures) g.sound b.failed;
    explains = b.explains ∙ g.explains;
  })
  | inr e ↦ elim e [
    | inl k ↦ inr (
      fault_line f,
      inl refl,
      record {
        written = Appends-kept old.known mid.known new.known (fault_line f) g.written k.kept;
        path = k.path ∙ g.path;
        sound = k.sound ∙ g.sound;
        explains = k.explains ∙ g.explains;
      },
    )
    | inr p ↦ inr (
      fault_line f ++ words_line f,
      inr (sym g.explains ∙ p.0, refl),
      record {
        written = Appends-trans old.known mid.known new.known (fault_line f) (words_line f) g.written p.1.written;
        path = p.1.path ∙ g.path;
        sound = p.1.sound ∙ g.sound;
        explains = p.1.explains ∙ g.explains;
      },
    )
  ]
]

pub told_behind : (old mid new : Device) (f : Fault) (shown : Bool) → shown ≡ true → ShowFaultResult old mid f shown
    → AfterWords mid new f → AfterTell old new f
told_behind old mid new f shown is h w = told_words old mid new f (subst (ShowFaultResult old mid f) is h) w
