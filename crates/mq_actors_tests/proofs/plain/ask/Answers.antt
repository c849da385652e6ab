use Rattle.mq_actors_tests.proofs.plain.ask.Goals as goal

pub returns : goal.returns
returns c = λ links seen boxes w next serves.
    let offered = c.in_ok-offer.ensures.serves links seen boxes 0 w next serves in
    (_, c.in_ok-piece.ensures.serves _ seen boxes 0 _ offered)
