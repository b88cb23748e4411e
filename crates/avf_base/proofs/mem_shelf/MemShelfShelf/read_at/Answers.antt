use Rattle.std.proofs.Common.{ℕ, List, ◌≡◌, ◌⊎◌, Contains, IsNone, ap, refl, subst, ◌∙◌}
use Rattle.avf_base.specs.Entries.{entries_of}
use Rattle.avf_base.specs.States.{Entry, holding, next_call}
use Rattle.avf_base.proofs.mem_shelf.MemShelfShelf.read_at.Goals as goal

pub returns-in-None-clause-fails : goal.returns-in-None-clause-fails
returns-in-None-clause-fails c =
    let Missed : List ℕ → List Entry → ℕ → Type 0 = λ fails entries number. Contains fails number ⊎ IsNone (holding entries c.args.name.now) in
    let fails : c.deref-2.result.now ≡ c.args.self.now.fails = c.deref-2.ensures.value ∙ ap (λ s. s.fails) c.self.view_is in
    let entries : entries_of c.deref.result.now ≡ c.args.self.now.entries = ap entries_of c.deref.ensures.value ∙ ap (λ s. s.entries) c.self.view_is in
    let number : c.saturating_add-self-inside.result ≡ next_call c.args.self.now.calls =
    c.saturating_add-self-inside.ensures ∙ ap (λ s. next_call s.calls) c.self.view_is in (
      λ _. subst (λ fs. Missed fs c.args.self.now.entries (next_call c.args.self.now.calls)) fails
          (subst (λ es. Missed c.deref-2.result.now es (next_call c.args.self.now.calls)) entries
          (subst (Missed c.deref-2.result.now (entries_of c.deref.result.now)) number c.in-None.ensures)),
      λ _. refl,
    )
