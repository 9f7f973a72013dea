use Rattle.std.proofs.Common.{◌≡◌, ◌∙◌, ◌++◌, ◌∷◌, [], Some, ap, arith, length, sym}
use Rattle.pb_desk.specs.Desk.{DeskView}
use Rattle.pb_shared.specs.Inner.Rule.{stock}
use Rattle.pb_shared.specs.declared.seat_view.About.{About}
use Rattle.pb_shared.proofs.Offers.{starts_at}
use Rattle.pb_shared.proofs.shared_desk.share.lay_table.Goals as goal

pub new-requires : goal.new-requires
new-requires c = starts_at record { desk = c.of.result; clerks = c.args.clerks } c.args.desk _ _ c.of.ensures (c.push_reserved.ensures.items ∙ ap (λ l. l ++ Some c.args.desk ∷ []) c.in-Ok.ensures.items)
    (c.from-entries.ensures ∙ c.entries.ensures.entries) c.entries.ensures.legal c.entries.ensures.fits

pub returns-in-Ok-new-clause-ok : goal.returns-in-Ok-new-clause-ok
returns-in-Ok-new-clause-ok c =
    let laid = c.in-Ok-new.ensures.ok in
    let desk_is : c.in-Ok-new.laid.0.shared.key.desk.value ≡ c.args.desk = ap (λ (a : About). a.desk.value) laid.5 ∙ c.of.ensures in
    let room : c.in-Ok-new.laid.0.shared.key.desk.value.room ≡ c.args.desk.room = ap (λ (d : DeskView). d.room) desk_is in
    let same = c.room-room.ensures in
    let fits = c.room-room.type_inv in record {
      table = record {
        words = laid.0;
        slots = laid.1 ∙ ap length (c.push_reserved.ensures.items ∙ ap (λ l. l ++ Some c.args.desk ∷ []) c.in-Ok.ensures.items);
        small = omega arith;
      };
      desk_is = desk_is;
      clerks_is = ap (λ (a : About). a.clerks) laid.5;
      seat_of = laid.2;
      first = laid.4 ∙ (λ i. (stock (sym laid.5 i), []));
    }
