use Rattle.std.proofs.Common.{sym, ap, ◌∙◌}
use Rattle.std.specs.List.{position}
use Rattle.std.specs.Map.{keys_of}
use Rattle.std.specs.Str.{bytes_eq}
use Rattle.sf_value.specs.Stores.{stored}
use Rattle.sf_value.proofs.SlotLists.{has_key}
use Rattle.sf_value.proofs.Changes.{slots-position}
use Rattle.sf_value.proofs.store.Store.place.Goals as goal

pub returns-in-Few : goal.returns-in-Few
returns-in-Few g c =
    let k = c.args.key.now in
    c.place_of.ensures ∙ ap (position (has_key k)) c.deref.ensures.value
    ∙ slots-position k c.in-Few.slots.items
    ∙ ap (λ s. position (bytes_eq k) (keys_of (stored s))) (sym c.in-Few.is)

pub returns-in-Many : goal.returns-in-Many
returns-in-Many g c =
    let k = c.args.key.now in
    c.get_index_of.ensures.index
    ∙ ap (λ m. position (bytes_eq k) (keys_of m.entries)) c.deref-in-Many.ensures
    ∙ ap (λ s. position (bytes_eq k) (keys_of (stored s))) (sym c.in-Many.is)
