use Rattle.pb_rounds.proofs.side_by_side.fn.try_group.try_one+Fn.call.Goals as goal

pub try_one-requires : goal.try_one-requires
try_one-requires g c =
    let r = c.requires.1.1.1 in
    let b = r.1 in
    (b.0, (b.1, (b.2, (b.3, (b.4, r.0)))))
