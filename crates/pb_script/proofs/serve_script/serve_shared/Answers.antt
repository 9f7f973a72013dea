use Rattle.std.proofs.Common.{refl}
use Rattle.pb_script.proofs.Servings.{AreAll-back, AreBack-same, AreCounts-back, ServesUpTo-merged, own_back}
use Rattle.pb_script.proofs.serve_script.serve_shared.Goals as goal

pub finish-requires : goal.finish-requires
finish-requires g c =
    record { own = own_back _ c.args.work.now.lists.now c.in-Ok.clerks.items c.in-Ok.served.items c.in-Ok.ensures }

pub unwrap-desk-requires : goal.unwrap-desk-requires
unwrap-desk-requires g c =
    c.finish.ensures.all (AreAll-back _ c.args.work.now.lists.now c.in-Ok.clerks.items c.in-Ok.served.items c.in-Ok.ensures)

pub serve_rest-rest-requires-clause-counts : goal.serve_rest-rest-requires-clause-counts
serve_rest-rest-requires-clause-counts g c =
    let lists = c.args.work.now.lists.now in
    let clerks = c.in-Ok.clerks.items in
    let served = c.as_slice.result.now in
    let back = AreBack-same c.args.shared lists clerks clerks c.in-Ok.served.items served c.in-Ok.ensures refl c.as_slice.ensures.value in
    AreCounts-back c.args.shared lists clerks served c.requires.one_each back

pub serve_rest-rest-requires-clause-so_far : goal.serve_rest-rest-requires-clause-so_far
serve_rest-rest-requires-clause-so_far g c =
    let lists = c.args.work.now.lists.now in
    let clerks = c.in-Ok.clerks.items in
    let served = c.as_slice.result.now in
    let back = AreBack-same c.args.shared lists clerks clerks c.in-Ok.served.items served c.in-Ok.ensures refl c.as_slice.ensures.value in
    let merged = rw c.unwrap-desk.ensures at c.finish.ensures.ok in
    ServesUpTo-merged c.args.shared lists clerks served c.unwrap-desk.result.journal c.requires.empty c.requires.one_each back merged.1
