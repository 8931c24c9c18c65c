mod PileSteps
