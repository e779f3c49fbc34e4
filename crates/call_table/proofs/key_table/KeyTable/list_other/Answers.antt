use Rattle.std.proofs.Common.{refl, ap}
use Rattle.std.specs.BTreeMap.{get}
use Rattle.std.specs.Option.{option_or}
use Rattle.std.specs.Ordering.{nat_cmp}
use Rattle.call_table.specs.inner.KeyTable.{digest_of, number_where}
use Rattle.call_table.proofs.Listing.{other_listed}
use Rattle.call_table.proofs.key_table.KeyTable.list_other.Goals as goal

pub returns-clause-ok : goal.returns-clause-ok
returns-clause-ok g c =
    let old = c.args.self.now in
    let key = c.args.key in (
      refl,
      ap (λ number. option_or number (number_where key.items (get nat_cmp old.firsts (digest_of key.items)))) c.in-Ok.ensures.updates.1,
      λ other apart. ap (λ number. option_or number (number_where other (get nat_cmp old.firsts (digest_of other))))
          (other_listed old.others c.insert.new.self key old.next c.in-Ok.ensures.entries other apart),
    )
